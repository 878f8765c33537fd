use Rattle.std.proofs.Common.{◌≡◌, ◌∙◌, List, [], None, sym, ap, subst, unwrap_or}
use Rattle.cri_msgs.specs.declared.replies.Reply.{Reply}
use Rattle.runtime_cell.specs.Cell.{Cell}
use Rattle.registry.specs.declared.stage.Stage.TheVariants as stage
use Rattle.cri_msgs.specs.Calls.{uid_of}
use Rattle.registry.specs.Stands.{stages_in}
use Rattle.runtime_core.specs.Stands.{LendsTo, cells_in, list_in}
use Rattle.runtime_core.proofs.Stays.{alive}
use Rattle.runtime_core.proofs.There.{lent_none, lent_some}
use Rattle.runtime_core.proofs.runtime.lent_new.Goals as goal

pub returns-in-Live-clause-lent : goal.returns-in-Live-clause-lent
returns-in-Live-clause-lent c =
    let uid = uid_of c.args.request.call in
    let got = lent_some c.args.registry.now c.lend-reply.new.registry c.args.request.call c.args.files
    c.lend-reply.result.answer [] (list_in c.args.lists.now uid)
    (list_in c.lend-reply.new.self uid) c.requires.list c.lend-reply.ensures.lent in
    subst (λ (cells : List Cell). LendsTo c.args.registry.now c.lend-reply.new.registry c.args.request.call
    c.args.files c.lend-reply.result.answer [] cells) (sym (ap (λ l. unwrap_or l []) got.1)) got.2

pub returns-in-Unknown-clause-lent : goal.returns-in-Unknown-clause-lent
returns-in-Unknown-clause-lent c =
    let old = c.args.registry.now in
    let new = c.lend-reply.new.registry in
    let call = c.args.request.call in
    let uid = uid_of call in
    let got = lent_some old new call c.args.files c.lend-reply.result.answer [] (list_in c.args.lists.now uid)
    (list_in c.lend-reply.new.self uid) c.requires.list c.lend-reply.ensures.lent in
    let stage : stages_in new uid ≡ stage.Unknown =
    subst (λ u. stages_in new u ≡ stage.Unknown) (c.as_str.ensures.value ∙ c.requires.same)
    (sym c.stage.ensures ∙ c.in-Unknown.is) in
    let lent = lent_none old new call c.args.files c.lend-reply.result.answer
    [] got.0 c.requires.bound c.requires.agrees (ap alive stage) got.2 in
    let none = subst (λ u. list_in c.without.new.lists u ≡ None) c.requires.same c.without.ensures.here in
    subst (λ (reply : Reply). LendsTo old new call c.args.files reply.answer []
    (cells_in c.without.new.lists uid)) (sym c.without.ensures.reply)
    (subst (λ (cells : List Cell). LendsTo old new call c.args.files c.lend-reply.result.answer [] cells)
    (sym (ap (λ l. unwrap_or l []) none)) lent)

pub returns-in-Removed-clause-lent : goal.returns-in-Removed-clause-lent
returns-in-Removed-clause-lent c =
    let old = c.args.registry.now in
    let new = c.lend-reply.new.registry in
    let call = c.args.request.call in
    let uid = uid_of call in
    let got = lent_some old new call c.args.files c.lend-reply.result.answer [] (list_in c.args.lists.now uid)
    (list_in c.lend-reply.new.self uid) c.requires.list c.lend-reply.ensures.lent in
    let stage : stages_in new uid ≡ stage.Removed =
    subst (λ u. stages_in new u ≡ stage.Removed) (c.as_str.ensures.value ∙ c.requires.same)
    (sym c.stage.ensures ∙ c.in-Removed.is) in
    let lent = lent_none old new call c.args.files c.lend-reply.result.answer
    [] got.0 c.requires.bound c.requires.agrees (ap alive stage) got.2 in
    let none = subst (λ u. list_in c.without-in-Removed.new.lists u ≡ None) c.requires.same
    c.without-in-Removed.ensures.here in
    subst (λ (reply : Reply). LendsTo old new call c.args.files reply.answer []
    (cells_in c.without-in-Removed.new.lists uid)) (sym c.without-in-Removed.ensures.reply)
    (subst (λ (cells : List Cell). LendsTo old new call c.args.files c.lend-reply.result.answer [] cells)
    (sym (ap (λ l. unwrap_or l []) none)) lent)
