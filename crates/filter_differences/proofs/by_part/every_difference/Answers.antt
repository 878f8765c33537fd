use Rattle.std.proofs.Common.{inl, inr, arith}
use Rattle.std.proofs.lemmas.Bool.{cases_eq, cases_lt}
use Rattle.call_data.specs.declared.sys_call.TheConstants.{NATIVE_ARCH}
use Rattle.filter_differences.proofs.by_part.every_difference.Goals as goal

pub returns-clause-complete : goal.returns-clause-complete
returns-clause-complete g c = λ call is misses.
    let without = c.in_ok-add-2.ensures.kept call misses in
    elim (cases_eq call.arch NATIVE_ARCH) [
      | inl native ↦ elim (cases_lt call.nr 0x40000000) [
        | inl below ↦
            c.in_ok-found.ensures.complete call (is, native, below) (c.in_ok-add.ensures.kept call without)
        | inr x32 ↦ c.in_ok-add.ensures.complete call (is, native, x32, omega (arith, is.nr)) without
      ]
      | inr other ↦ c.in_ok-add-2.ensures.complete call (is, other) misses
    ]
