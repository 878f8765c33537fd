use Rattle.std.proofs.Common.{◌≡◌, ◌∙◌, Some, ap, subst}
use Rattle.oci_profile.specs.Profile.{ReadsProfileWith}
use Rattle.oci_profile.specs.Reading.{first_fault_at}
use Rattle.sys_table.specs.SysTable.{number_in}
use Rattle.motchidu_c.specs.Status.{number_of}
use Rattle.motchidu_c.proofs.explaining_name.motchidu_explain_name.Goals as goal

pub returns-in-Some-clause-first : goal.returns-in-Some-clause-first
returns-in-Some-clause-first c known nr found is named first enough =
    let same : known ≡ c.in-Some.known = cc in
    let call = subst (λ calls. number_in calls c.args.name.now ≡ Some nr) same named in
    let fault = subst (λ calls. first_fault_at calls c.args.profile.now ≡ Some found) same first in
    c.number.ensures ∙ ap number_of
    (c.named.ensures.first nr found call fault (λ e. enough (c.number.ensures ∙ ap number_of e)))

pub returns-in-Some-clause-accepts : goal.returns-in-Some-clause-accepts
returns-in-Some-clause-accepts c known nr p is named reads enough =
    let same : known ≡ c.in-Some.known = cc in
    let call = subst (λ calls. number_in calls c.args.name.now ≡ Some nr) same named in
    let read = subst (λ calls. ReadsProfileWith calls c.args.profile.now p) same reads in
    c.number.ensures ∙ ap number_of
    (c.named.ensures.accepts nr p call read (λ e. enough (c.number.ensures ∙ ap number_of e)))
