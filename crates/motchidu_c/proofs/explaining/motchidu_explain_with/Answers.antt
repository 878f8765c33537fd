use Rattle.std.proofs.Common.{◌≡◌, ◌∙◌, ap, subst}
use Rattle.oci_profile.specs.Profile.{ReadsProfileWith}
use Rattle.motchidu_c.specs.Status.{number_of}
use Rattle.motchidu_c.proofs.explaining.motchidu_explain_with.Goals as goal

pub returns-in-Some-clause-accepts : goal.returns-in-Some-clause-accepts
returns-in-Some-clause-accepts c known p is reads enough =
    let same : known ≡ c.in-Some.known = cc in
    let read = subst (λ calls. ReadsProfileWith calls c.args.profile.now p) same reads in
    c.number.ensures ∙ ap number_of
    (c.explained.ensures.accepts p read (λ e. enough (c.number.ensures ∙ ap number_of e)))
