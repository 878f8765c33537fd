-- The texts are the same.
use Rattle.std.proofs.Common.{◌≡◌, ℕ, List, rules, subst}
use Rattle.runner.specs.Readings.{IsReading}
use Rattle.runner.proofs.Readings.{is_reading}
use Rattle.runner.proofs.reading.Outcome.given_for.Goals as goal

pub returns : goal.returns
returns c =
    let own = c.args.self in
    let same_version : own.version ≡ c.args.version = search rules in
    let same_text : own.text.items ≡ c.args.text.now = search rules in
    subst (λ version. IsReading version c.args.text.now own.given) same_version
    (subst (λ (text : List ℕ). IsReading own.version text own.given) same_text
    (is_reading own.version own.text.items own.given own.found own.other))
