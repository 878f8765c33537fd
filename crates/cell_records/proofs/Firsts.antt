-- One more call of a record: what is listed of the calls before it, and the call itself.
use Rattle.std.proofs.Common.{◌≡◌, ℕ, ◌+◌, ◌<◌, Bool, true, false, ◌&&◌, List, [], ◌∷◌, ◌++◌, length}
use Rattle.std.proofs.Common.{take, drop, drop-cons, get_or, add-one, arith, not, sym, ap, ◌∙◌}
use Rattle.std.specs.Prelude.{filter_map}
use Rattle.std.specs.List.{enumerate_from, list_any}
use Rattle.std.proofs.Math.Seq.{take-suc}
use Rattle.std.proofs.lemmas.Grind.{common_steps}
use Rattle.std.proofs.lemmas.List.Folds.{list_any-append}
use Rattle.runtime_cell.specs.declared.calls.JudgedCall.{JudgedCall}
use Rattle.cell_records.specs.declared.tallies.CallKind.{CallKind}
use Rattle.cell_records.specs.declared.tallies.RecordCalls.{RecordCalls}
use Rattle.cell_records.specs.declared.tallies.Tally.{Tally}
use Rattle.cell_records.specs.Steps.{is_new, is_told}
use Rattle.cell_records.specs.Summary.{comes_first, is_of, is_listed, kind_of, same_kind, tally_at, tally_of}

of_same : (calls : RecordCalls) (a b : CallKind) (entry : JudgedCall) → same_kind a b ≡ true
    → is_of calls a entry ≡ true → is_of calls b entry ≡ true
of_same calls a b entry same is = grind (arith, common_steps)

-- kinds that are the same have the same calls
same_calls : (calls : RecordCalls) (a b : CallKind) (entries : List JudgedCall)
    → same_kind a b ≡ true → list_any (is_of calls a) entries ≡ true → list_any (is_of calls b) entries ≡ true
same_calls calls a b [] same is = is
same_calls calls a b (entry ∷ entries) same is =
    grind (arith, common_steps, of_same calls a b entry same, same_calls calls a b entries same)

-- the kinds with a tally are those of these calls
abbrev pub Tells : RecordCalls → List Tally → List JudgedCall → Type 0
Tells calls tallies before = (kind : CallKind) → is_told kind tallies ≡ list_any (is_of calls kind) before

pub tells_first : (calls : RecordCalls) (tallies : List Tally) (before : List JudgedCall) (entry : JudgedCall)
    (entries : List JudgedCall) (place : ℕ) → is_new calls tallies entry ≡ true → Tells calls tallies before
    → Tells calls (tallies ++ tally_of calls entries place (kind_of entry) ∷ []) (before ++ entry ∷ [])
tells_first calls tallies before entry entries place new told kind =
    let tally = tally_of calls entries place (kind_of entry) in
    grind (
      arith,
      common_steps,
      told kind,
      list_any-append (λ t. same_kind t.kind kind) tallies (tally ∷ []),
      list_any-append (is_of calls kind) before (entry ∷ []),
    )

pub tells_other : (calls : RecordCalls) (tallies : List Tally) (before : List JudgedCall) (entry : JudgedCall)
    → is_new calls tallies entry ≡ false → Tells calls tallies before → Tells calls tallies (before ++ entry ∷ [])
tells_other calls tallies before entry old told kind =
    grind (
      arith,
      common_steps,
      told kind,
      told (kind_of entry),
      same_calls calls (kind_of entry) kind before,
      list_any-append (is_of calls kind) before (entry ∷ []),
    )

-- the tallies so far, and those from this place on
abbrev pub Adds : RecordCalls → List JudgedCall → List Tally → ℕ → List Tally → Type 0
Adds calls entries tallies place whole =
    tallies ++ filter_map (tally_at calls entries) (enumerate_from place (drop place entries)) ≡ whole

first_is_new : (calls : RecordCalls) (entries : List JudgedCall) (tallies : List Tally) (place : ℕ)
    (entry : JudgedCall) → Tells calls tallies (take place entries)
    → comes_first calls entries place entry ≡ is_new calls tallies entry
first_is_new calls entries tallies place entry told =
    ap (λ b. is_listed calls entry && not b) (sym (told (kind_of entry)))

pub adds_first : (calls : RecordCalls) (entries : List JudgedCall) (tallies whole : List Tally) (place : ℕ)
    (d : JudgedCall) → place < length entries → is_new calls tallies (get_or entries place d) ≡ true
    → Tells calls tallies (take place entries) → Adds calls entries tallies place whole
    → Adds calls entries (tallies ++ tally_of calls entries place (kind_of (get_or entries place d)) ∷ [])
    (place + 1) whole
adds_first calls entries tallies whole place d inside new told so_far =
    grind (
      arith,
      common_steps,
      drop-cons entries place d,
      first_is_new calls entries tallies place (get_or entries place d) told,
    )

pub adds_other : (calls : RecordCalls) (entries : List JudgedCall) (tallies whole : List Tally) (place : ℕ)
    (d : JudgedCall) → place < length entries → is_new calls tallies (get_or entries place d) ≡ false
    → Tells calls tallies (take place entries) → Adds calls entries tallies place whole
    → Adds calls entries tallies (place + 1) whole
adds_other calls entries tallies whole place d inside old told so_far =
    grind (
      arith,
      common_steps,
      drop-cons entries place d,
      first_is_new calls entries tallies place (get_or entries place d) told,
    )

pub longer : {A : Type 0} (xs : List A) (place : ℕ) (d : A) → place < length xs
    → take place xs ++ get_or xs place d ∷ [] ≡ take (place + 1) xs
longer xs place d inside = sym (ap (λ n. take n xs) (add-one place) ∙ take-suc xs place d inside)

pub seen : (calls : RecordCalls) (entries : List JudgedCall) (place : ℕ) (d : JudgedCall)
    (same tallies : List Tally) (result : Bool) → same ≡ tallies
    → result ≡ is_new calls same (get_or entries place d) → is_new calls tallies (get_or entries place d) ≡ result
seen calls entries place d same tallies result is found =
    ap (λ ts. is_new calls ts (get_or entries place d)) (sym is) ∙ sym found
