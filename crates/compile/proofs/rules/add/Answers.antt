use Rattle.compile.proofs.Common.{List, sym, subst, Clause, clause_holds, Says}
use Rattle.compile.proofs.Saying.{says_one}
use Rattle.compile.proofs.rules.add.Goals as goal

pub returns-in_ok-push : goal.returns-in_ok-push
returns-in_ok-push c = λ n small.
    let P : List Clause → Type 0 = λ new. Says c.args.clauses.now.items new
    (λ call. clause_holds c.args.clause call) n in
    subst P (sym c.in_ok-push.ensures.items) (says_one c.args.clauses.now.items c.args.clause n small)
