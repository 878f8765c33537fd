use Rattle.std.proofs.Common.{◌≡◌, ◌≢◌, ◌∙◌, ℕ, List, [], ap, refl, subst, unwrap_or}
use Rattle.cri_msgs.specs.Calls.{uid_of}
use Rattle.runtime_core.specs.Stands.{IsListFor, cells_in, list_in}
use Rattle.runtime_core.proofs.Serving.{whole_still}
use Rattle.runtime_core.proofs.runtime.wake.Goals as goal

pub returns-in-Ok-put-clause-whole : goal.returns-in-Ok-put-clause-whole
returns-in-Ok-put-clause-whole c =
    let uid = uid_of c.args.request.call in
    let same = c.as_str.ensures.value ∙ c.in-Ok.ensures ∙ c.uid_of.ensures in
    let none = subst (λ s. IsListFor s (list_in c.args.lists.now uid)) c.requires.unknown
    (c.requires.whole.listed uid) in
    let put = subst (λ v. (u : List ℕ) → u ≢ v → list_in c.put.new.self u ≡ list_in c.args.lists.now u) same
    c.put.ensures.others in
    whole_still c.args.registry.now c.lent_new.new.registry c.args.lists.now c.lent_new.new.lists
    c.args.request.call c.args.files c.lent_new.result.answer [] (cells_in c.lent_new.new.lists uid)
    c.requires.whole (ap (λ l. unwrap_or l []) none) refl (λ u other. c.lent_new.ensures.others u other
    ∙ put u other) c.lent_new.ensures.lent c.lent_new.ensures.listed
