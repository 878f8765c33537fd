use Rattle.std.proofs.Common.{inl, inr, arith}
use Rattle.std.proofs.lemmas.Bool.{cases_lt}
use Rattle.sys_table.specs.SysTable.{limit_of}
use Rattle.filter_differences.proofs.Limits.{is_below_x32}
use Rattle.filter_differences.proofs.by_part.native_differences.Goals as goal

pub loop-nr-preserved : goal.loop-nr-preserved
loop-nr-preserved g c = (
  λ call is below misses. elim (cases_lt call.nr c.loop-nr.nr) [
    | inl before ↦ c.loop-nr.invariant.0 call is (omega (arith, before, c.loop-nr.invariant))
        (c.in_ok-add.ensures.kept call misses)
    | inr here ↦ c.in_ok-add.ensures.complete call (is.0, is.1, here, omega (arith, below)) misses
  ],
  c.in_ok-add.ensures.real,
  c.in_ok-add.ensures.parts,
  c.in_ok-add.ensures.in_order,
  c.in_ok-add.ensures.below,
  omega (arith, c.last_from-last.ensures.rises),
  omega (arith, c.last_from-last.ensures.inside),
)

pub add-requires-2-clause-below : goal.add-requires-2-clause-below
add-requires-2-clause-below g c = λ k d within.
    omega (arith, c.loop-nr.invariant.4 k d within, c.loop-nr.invariant, is_below_x32 c.args.known)

pub returns-clause-complete : goal.returns-clause-complete
returns-clause-complete g c = λ call is misses. elim (cases_lt call.nr (limit_of c.args.known)) [
  | inl below ↦ c.loop-nr.invariant.0 call is
      (omega (arith, below, c.loop-nr-test.false, c.loop-nr.invariant)) (c.in_ok-add-2.ensures.kept call misses)
  | inr later ↦ c.in_ok-add-2.ensures.complete call (is.0, is.1, later, omega (arith, is.2)) misses
]
