-- The calls have a name at the number, so they have the number at the name.
use Rattle.std.proofs.Common.{ap, sym, ◌∙◌}
use Rattle.std.specs.Option.{option_copied}
use Rattle.seen_calls.proofs.names.known.Goals as goal

pub returns-in-Some-clause-within : goal.returns-in-Some-clause-within
returns-in-Some-clause-within c =
    let named = sym c.name.ensures ∙ ap option_copied c.in-Some.is in
    c.names_and_numbers_agree.ensures.within c.args.calls c.in-Some.field-0.now c.args.number
    ((c.names_and_numbers_agree.ensures.agree c.args.calls c.in-Some.field-0.now c.args.number).1 named)

pub returns-in-Some-clause-small : goal.returns-in-Some-clause-small
returns-in-Some-clause-small c =
    let named = sym c.name.ensures ∙ ap option_copied c.in-Some.is in
    c.names_and_numbers_agree.ensures.in_table c.args.calls c.in-Some.field-0.now c.args.number
    ((c.names_and_numbers_agree.ensures.agree c.args.calls c.in-Some.field-0.now c.args.number).1 named)
