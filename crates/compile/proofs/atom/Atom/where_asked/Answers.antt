use Rattle.compile.proofs.Common.{◌≡◌, ℕ, ◌<◌, false, refl, subst, sym, ◌∙◌, arith, ne_eqb, asks, seen, Ask}
use Rattle.compile.proofs.Bits.{seen_less}
use Rattle.compile.proofs.atom.Atom.where_asked.Goals as goal

pub returns-in-Equal-2 : goal.returns-in-Equal-2
returns-in-Equal-2 c = λ word told.
    let mask : ℕ = c.args.self.now.view.mask in
    let below : word < c.in-Equal-2.j = c.if-is_below.ensures refl word (told ∙ c.if-not-answer.true) in
    let P : Ask → Type 0 = λ a. asks a (seen mask word) ≡ false in
    subst P (sym c.in-Equal-2.is) (ne_eqb (seen mask word) c.in-Equal-2.j
    (λ here. omega (arith, here, below, seen_less mask word)))
