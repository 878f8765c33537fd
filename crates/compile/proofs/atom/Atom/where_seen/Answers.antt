use Rattle.compile.proofs.Common.{◌≡◌, ℕ, false, subst, sym, ap, ◌∙◌, ne_eqb, asks, seen, Ask}
use Rattle.compile.proofs.Bits.{seen_turned}
use Rattle.compile.proofs.atom.Atom.where_seen.Goals as goal

pub returns-in-Equal : goal.returns-in-Equal
returns-in-Equal c = λ word is.
    let mask : ℕ = c.args.self.now.view.mask in
    let P : Ask → Type 0 = λ a. asks a (seen mask word) ≡ false in
    subst P (sym c.in-Equal.is) (ne_eqb (seen mask word) c.in-Equal.j
    (λ here. c.if-seen.true (c.seen-in-Equal-1.ensures ∙ ap (λ n. seen c.args.mask n) (sym here)
    ∙ seen_turned c.args.mask mask word ∙ ap (λ n. seen mask n) is ∙ sym c.seen-in-Equal-2.ensures)))
