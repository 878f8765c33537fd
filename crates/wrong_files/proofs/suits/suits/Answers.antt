use Rattle.std.proofs.Common.{sym, subst, ◌↔◌}
use Rattle.std.specs.Prelude.{IfOk, IsTrue}
use Rattle.wrong_files.specs.Hints.{Suits}
use Rattle.wrong_files.proofs.suits.suits.Goals as goal

pub returns-in-Filter : goal.returns-in-Filter
returns-in-Filter c =
    subst (λ hint. IfOk c.is_filter.result (λ suits. IsTrue suits ↔ Suits c.args.bytes.now hint))
    (sym c.in-Filter.is) c.is_filter.ensures

pub returns-in-Base64 : goal.returns-in-Base64
returns-in-Base64 c =
    subst (λ hint. IfOk c.is_base64.result (λ suits. IsTrue suits ↔ Suits c.args.bytes.now hint))
    (sym c.in-Base64.is) c.is_base64.ensures
