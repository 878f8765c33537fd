-- One step: its only result, where it goes, and what it does to the words.
use Rattle.std.proofs.Common.{◌≡◌, ℕ, ◌+◌, ◌==◌, Bool, true, false, cond, ◌⊎◌, inl, inr, Option, Some, refl}
use Rattle.std.proofs.Common.{sym, ap, ◌∙◌}
use Rattle.std.proofs.lemmas.Bool.{eq-eqb}
use Rattle.bpf_code.specs.declared.insn.Insn.{Insn}
use Rattle.bpf_code.specs.declared.operation.Operation.{Operation}
use Rattle.bpf_code.specs.declared.operation.Operation.TheVariants.{LoadData, LoadWord, LoadXWord, Store}
use Rattle.bpf_code.specs.declared.operation.Operation.TheVariants.{StoreX, DivK, DivX, ShiftLeft, ShiftRight}
use Rattle.bpf_code.specs.declared.operation.Operation.TheVariants.{JumpEqualK, JumpEqualX, JumpGreaterK}
use Rattle.bpf_code.specs.declared.operation.Operation.TheVariants.{JumpGreaterX, JumpGreaterOrEqualK}
use Rattle.bpf_code.specs.declared.operation.Operation.TheVariants.{JumpGreaterOrEqualX, JumpAnyBitK}
use Rattle.bpf_code.specs.declared.operation.Operation.TheVariants.{JumpAnyBitX, ReturnK, ReturnA}
use Rattle.bpf_code.specs.declared.flow.Scratch.TheVariants.{Loads, Stores}
use Rattle.bpf_code.specs.Flow.{flow_of, scratch_of}
use Rattle.call_data.specs.declared.sys_call.SysCall.{SysCall}
use Rattle.bpf_verify.specs.Walks.{MayGo}
use Rattle.bpf_verify.specs.Sound.{KeepsNumber}
use Rattle.bpf_machine.specs.Machine.{State, Next, Holds, Executes, sets_a, sets_x, sets_word, branches}
use Rattle.bpf_machine.specs.Machine.Next.{Goes, Ends}

pub goes_same : (t u : State) → Goes t ≡ Goes u → t ≡ u
goes_same t u e = cc

pub goes_not_ends : (t : State) (value : ℕ) → Goes t ≡ Ends value → ⊥
goes_not_ends t value e = cc

-- an operation has one result
word_unique : (s : State) (word a b : ℕ) → Holds s word a → Holds s word b → a ≡ b
word_unique s word a b one two = let e : Some a ≡ Some b = sym one.stored ∙ two.stored in cc

pub Executes-unique : (op : Operation) (call : SysCall) (insn : Insn) (s : State) (n m : Next)
    → Executes op call insn s n → Executes op call insn s m → n ≡ m
Executes-unique LoadData call insn s n m one two = one.2 ∙ sym two.2
Executes-unique LoadWord call insn s n m one two =
    one.2 ∙ ap (λ v. sets_a s v) (word_unique s insn.k one.0 two.0 one.1 two.1) ∙ sym two.2
Executes-unique LoadXWord call insn s n m one two =
    one.2 ∙ ap (λ v. sets_x s v) (word_unique s insn.k one.0 two.0 one.1 two.1) ∙ sym two.2
Executes-unique Store call insn s n m one two = one.1 ∙ sym two.1
Executes-unique StoreX call insn s n m one two = one.1 ∙ sym two.1
Executes-unique DivK call insn s n m one two = one.1 ∙ sym two.1
Executes-unique ShiftLeft call insn s n m one two = one.1 ∙ sym two.1
Executes-unique ShiftRight call insn s n m one two = one.1 ∙ sym two.1
Executes-unique _ call insn s n m one two = one ∙ sym two

-- it leads to a place to which the filter may go
branch_goes : (test : Bool) (insn : Insn) (s t : State) → Goes t ≡ branches test insn s
    → (t.place ≡ s.place + 1 + insn.jt) ⊎ (t.place ≡ s.place + 1 + insn.jf)
branch_goes true insn s t e = inl (ap (λ (u : State). u.place) (goes_same t _ e))
branch_goes false insn s t e = inr (ap (λ (u : State). u.place) (goes_same t _ e))

division_goes : (by_zero : Bool) (s t : State) (value : ℕ) → Goes t ≡ cond by_zero (Ends 0) (sets_a s value)
    → Goes t ≡ sets_a s value
division_goes true s t value e = absurd (goes_not_ends t 0 e)
division_goes false s t value e = e

pub moves : (op : Operation) (call : SysCall) (insn : Insn) (s t : State) → Executes op call insn s (Goes t)
    → MayGo (flow_of op) insn s.place t.place
moves LoadData call insn s t does = ap (λ (u : State). u.place) (goes_same t _ does.2)
moves LoadWord call insn s t does = ap (λ (u : State). u.place) (goes_same t _ does.2)
moves LoadXWord call insn s t does = ap (λ (u : State). u.place) (goes_same t _ does.2)
moves Store call insn s t does = ap (λ (u : State). u.place) (goes_same t _ does.1)
moves StoreX call insn s t does = ap (λ (u : State). u.place) (goes_same t _ does.1)
moves DivK call insn s t does = ap (λ (u : State). u.place) (goes_same t _ does.1)
moves DivX call insn s t does = ap (λ (u : State). u.place)
    (goes_same t _ (division_goes (s.x == 0) s t _ does))
moves ShiftLeft call insn s t does = ap (λ (u : State). u.place) (goes_same t _ does.1)
moves ShiftRight call insn s t does = ap (λ (u : State). u.place) (goes_same t _ does.1)
moves JumpEqualK call insn s t does = branch_goes _ insn s t does
moves JumpEqualX call insn s t does = branch_goes _ insn s t does
moves JumpGreaterK call insn s t does = branch_goes _ insn s t does
moves JumpGreaterX call insn s t does = branch_goes _ insn s t does
moves JumpGreaterOrEqualK call insn s t does = branch_goes _ insn s t does
moves JumpGreaterOrEqualX call insn s t does = branch_goes _ insn s t does
moves JumpAnyBitK call insn s t does = branch_goes _ insn s t does
moves JumpAnyBitX call insn s t does = branch_goes _ insn s t does
moves ReturnK call insn s t does = absurd (goes_not_ends t _ does)
moves ReturnA call insn s t does = absurd (goes_not_ends t _ does)
moves _ call insn s t does = ap (λ (u : State). u.place) (goes_same t _ does)

-- a word that was stored stays so
abbrev pub IsKnown : State → ℕ → Type 0
IsKnown s word = (value : ℕ) × (s.words word ≡ Some value)

same_words : (s t : State) (word : ℕ) → t.words ≡ s.words → IsKnown s word → IsKnown t word
same_words s t word same known = (known.0, ap (λ (f : ℕ → Option ℕ). f word) same ∙ known.1)

set_known : (at_word : Bool) (value : ℕ) (o : Option ℕ) → (v : ℕ) × (o ≡ Some v) → (v : ℕ)
    × (cond at_word (Some value) o ≡ Some v)
set_known true value o known = (value, refl)
set_known false value o known = known

set_keeps : (s t : State) (k value word : ℕ) → Goes t ≡ sets_word s k value → IsKnown s word → IsKnown t word
set_keeps s t k value word e known =
    let is = set_known (word == k) value (s.words word) known in
    (is.0, ap (λ (u : State). u.words word) (goes_same t _ e) ∙ is.1)

set_sets : (s t : State) (k value : ℕ) → Goes t ≡ sets_word s k value → IsKnown t k
set_sets s t k value e = (
  value,
  ap (λ (u : State). u.words k) (goes_same t _ e)
      ∙ ap (λ b. cond b (Some value) (s.words k)) (eq-eqb k k refl),
)

branch_keeps : (test : Bool) (insn : Insn) (s t : State) → Goes t ≡ branches test insn s → t.words ≡ s.words
branch_keeps test insn s t e = ap (λ (u : State). u.words) (goes_same t _ e)

pub keeps_words : (op : Operation) (call : SysCall) (insn : Insn) (s t : State) (word : ℕ)
    → Executes op call insn s (Goes t) → IsKnown s word → IsKnown t word
keeps_words LoadData call insn s t word does =
    same_words s t word (ap (λ (u : State). u.words) (goes_same t _ does.2))
keeps_words LoadWord call insn s t word does =
    same_words s t word (ap (λ (u : State). u.words) (goes_same t _ does.2))
keeps_words LoadXWord call insn s t word does =
    same_words s t word (ap (λ (u : State). u.words) (goes_same t _ does.2))
keeps_words Store call insn s t word does = set_keeps s t insn.k s.a word does.1
keeps_words StoreX call insn s t word does = set_keeps s t insn.k s.x word does.1
keeps_words DivK call insn s t word does =
    same_words s t word (ap (λ (u : State). u.words) (goes_same t _ does.1))
keeps_words DivX call insn s t word does =
    same_words s t word (ap (λ (u : State). u.words) (goes_same t _ (division_goes (s.x == 0) s t _ does)))
keeps_words ShiftLeft call insn s t word does =
    same_words s t word (ap (λ (u : State). u.words) (goes_same t _ does.1))
keeps_words ShiftRight call insn s t word does =
    same_words s t word (ap (λ (u : State). u.words) (goes_same t _ does.1))
keeps_words ReturnK call insn s t word does = absurd (goes_not_ends t _ does)
keeps_words ReturnA call insn s t word does = absurd (goes_not_ends t _ does)
keeps_words _ call insn s t word does = same_words s t word (ap (λ (u : State). u.words) (goes_same t _ does))

-- a word is known once it is stored
pub stores_word : (op : Operation) (call : SysCall) (insn : Insn) (s t : State) → scratch_of op ≡ Stores
    → Executes op call insn s (Goes t) → IsKnown t insn.k
stores_word Store call insn s t stores does = set_sets s t insn.k s.a does.1
stores_word StoreX call insn s t stores does = set_sets s t insn.k s.x does.1
stores_word _ call insn s t stores does = absurd (cc)

-- an operation that keeps its rules has a result
pub executes : (op : Operation) (call : SysCall) (insn : Insn) (s : State) → KeepsNumber op insn.k
    → (scratch_of op ≡ Loads → IsKnown s insn.k) → (next : Next) × Executes op call insn s next
executes LoadData call insn s keeps known = (_, (keeps.0, keeps.1, refl))
executes LoadWord call insn s keeps known =
    (sets_a s (known refl).0, ((known refl).0, record { exists = keeps; stored = (known refl).1 }, refl))
executes LoadXWord call insn s keeps known =
    (sets_x s (known refl).0, ((known refl).0, record { exists = keeps; stored = (known refl).1 }, refl))
executes Store call insn s keeps known = (_, (keeps, refl))
executes StoreX call insn s keeps known = (_, (keeps, refl))
executes DivK call insn s keeps known = (_, (keeps, refl))
executes ShiftLeft call insn s keeps known = (_, (keeps, refl))
executes ShiftRight call insn s keeps known = (_, (keeps, refl))
executes _ call insn s keeps known = (_, refl)
