-- One more finding behind others.
use Rattle.std.proofs.Common.{◌≡◌, ◌<◌, List, [], ◌∷◌, ◌++◌, ◌+◌, length, get_or, inl, inr, ap, ◌∙◌, arith}
use Rattle.std.proofs.Math.Seq.{get_or-append_seam}
use Rattle.std.proofs.lemmas.Bool.{cases_lt}
use Rattle.std.proofs.lemmas.List.{get_or_append_left, length_push}
use Rattle.std.specs.List.{All}
use Rattle.filter_differences.specs.declared.finding.Finding.{Finding}
use Rattle.filter_differences.specs.Differences.{Ascend, IsBelow}
use Rattle.filter_differences.specs.Parts.{first_of}

pub one_more : (findings more : List Finding) (one : Finding) → more ≡ findings ++ one ∷ []
    → Ascend findings → All (IsBelow (first_of one.part)) findings → Ascend more
one_more findings more one is ascend below i j d before within =
    let longer : length more ≡ length findings + 1 = ap length is ∙ length_push findings one in
    let inside : i < length findings = omega (arith, before, within, longer) in
    let first : get_or more i d ≡ get_or findings i d =
    ap (λ xs. get_or xs i d) is ∙ get_or_append_left findings (one ∷ []) d i inside in
    elim (cases_lt j (length findings)) [
      | inl inner ↦ grind (arith, first, is, get_or_append_left, ascend i j d before inner, inner)
      | inr behind ↦
          let end : j ≡ length findings = omega (arith, behind, within, longer) in
          let last : get_or more j d ≡ one = ap (λ xs. get_or xs j d) is
          ∙ ap (λ k. get_or (findings ++ one ∷ []) k d) end ∙ get_or-append_seam findings one [] d in
          grind (arith, first, last, below i d inside)
    ]
