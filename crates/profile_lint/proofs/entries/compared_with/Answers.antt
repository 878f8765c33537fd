use Rattle.profile_lint.proofs.Near.{says_same}
use Rattle.profile_lint.proofs.entries.compared_with.Goals as goal

pub returns : goal.returns
returns c = says_same c.args.profile.now c.in_ok-kept.kept c.in_ok-other.other c.args.place c.args.entry.now
    c.args.middle c.compared.result c.requires c.in_ok-kept.ensures c.in_ok-other.ensures c.compared.ensures
