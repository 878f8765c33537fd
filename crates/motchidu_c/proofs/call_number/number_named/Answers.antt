use Rattle.std.proofs.Common.{◌≡◌, ℕ, Option, Some, None, refl, sym}
use Rattle.sys_table.specs.SysTable as table
use Rattle.motchidu_c.proofs.Ascii.{name_is_text}
use Rattle.motchidu_c.proofs.call_number.number_named.Goals as goal

-- bytes that are no text name no call
pub returns-in-Err : goal.returns-in-Err
returns-in-Err c = none (table.number_in c.args.known c.args.name.now) refl
  where
    none : (found : Option ℕ) → table.number_in c.args.known c.args.name.now ≡ found
        → None ≡ table.number_in c.args.known c.args.name.now
    none None e = sym e
    none (Some number) e =
        let named = (c.names_and_numbers_agree.ensures.agree c.args.known _ number).0 e in
        absurd (c.in-Err.ensures.cases.0 (name_is_text c.args.known number _ named))
