-- What holds at each place below another, and at each place of the code.
use Rattle.std.proofs.Common.{◌≡◌, ◌<◌, ◌≤◌, ◌+◌, ℕ, List, Some, length, get_or, slice_get, sym, subst, ◌∙◌}
use Rattle.std.proofs.Common.{arith}
use Rattle.std.proofs.lemmas.Option.{same_Some, slice_get_within, slice_get-get_or}
use borrow.Author.Count.{below_more}
use Rattle.bpf_code.specs.declared.insn.Insn.{Insn}
use Rattle.bpf_code.specs.declared.operation.Operation.TheVariants.{LoadImmediate}

-- the result of a read past the end of the code: any instruction
abbrev pub no_insn : Insn
no_insn = record { op = LoadImmediate; jt = 0; jf = 0; k = 0 }

-- one more place
pub places_more : (P : ℕ → Insn → Type 0) (code : List Insn) (at : ℕ) (insn : Insn)
    → ((earlier : ℕ) (other : Insn) → earlier < at → slice_get code earlier ≡ Some other → P earlier other)
    → slice_get code at ≡ Some insn → P at insn
    → (earlier : ℕ) (other : Insn) → earlier < at + 1 → slice_get code earlier ≡ Some other → P earlier other
places_more P code at insn so_far stands here earlier other below found =
    below_more (λ e. (o : Insn) → slice_get code e ≡ Some o → P e o) at
    (λ e under o is. so_far e o under is)
    (λ o is. let Q : Insn → Type 0 = λ x. P at x in subst Q (same_Some insn o (sym stands ∙ is)) here) earlier
    below other found

-- one more place, whose instruction was read
pub places_read : (P : ℕ → Insn → Type 0) (code : List Insn) (at : ℕ) (d : Insn)
    → ((earlier : ℕ) (other : Insn) → earlier < at → slice_get code earlier ≡ Some other → P earlier other)
    → at < length code → P at (get_or code at d)
    → (earlier : ℕ) (other : Insn) → earlier < at + 1 → slice_get code earlier ≡ Some other → P earlier other
places_read P code at d so_far within here =
    places_more P code at (get_or code at d) so_far (slice_get-get_or code at d within) here

-- all places
pub places_all : (P : ℕ → Insn → Type 0) (code : List Insn) (at : ℕ)
    → ((earlier : ℕ) (other : Insn) → earlier < at → slice_get code earlier ≡ Some other → P earlier other)
    → length code ≤ at
    → (place : ℕ) (insn : Insn) → slice_get code place ≡ Some insn → P place insn
places_all P code at so_far ends place insn stands =
    let within : place < length code = slice_get_within code place insn stands in
    so_far place insn (omega arith) stands
