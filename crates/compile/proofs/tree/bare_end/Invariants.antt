use Rattle.compile.proofs.Common.{◌≡◌, true, take, added_of, settles, NoneDecides}
use Rattle.compile.proofs.tree.bare_end.Given as goal

abbrev pub invariant-loop-at : goal.invariant-loop-at
invariant-loop-at l = (settles l.entries l.nr ≡ true → added_of (take l.at l.entries) l.nr ≡ 0)
    × NoneDecides (take l.at l.entries) l.nr
