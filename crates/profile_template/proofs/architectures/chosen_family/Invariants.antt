-- None of the families so far is the architecture's.
use Rattle.std.proofs.Common.{◌≡◌}
use Rattle.std.specs.Prelude.{find, option_map}
use Rattle.profile_template.specs.Reading.{is_family}
use Rattle.profile_template.proofs.architectures.chosen_family.Given as goal

abbrev pub invariant-loop-family : goal.invariant-loop-family
invariant-loop-family l = find (is_family (option_map (λ t. t.now) l.arch)) l.family-iterator.rest.items
    ≡ find (is_family (option_map (λ t. t.now) l.arch)) l.initial.family-iterator.rest.items
