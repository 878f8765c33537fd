use Rattle.std.proofs.Common.{◌≡◌, ◌≤◌, ◌<◌, true, length, string_bytes, ap, sym, subst, ◌∙◌, rules}
use Rattle.std.proofs.lemmas.Bool.{ltb-true, ltb-false}
use Rattle.std.specs.Str.{IsUtf8}
use Rattle.serde_json.specs.View.{view}
use Rattle.serde_json.specs.Written.{compact_text, has_float}
use Rattle.oci_profile.specs.declared.reader.TheConstants.{MAX_PROFILE_BYTES}
use Rattle.profile_text.specs.Writable.{is_writable}
use Rattle.profile_text.proofs.Whole.{no_float, reads}
use Rattle.profile_text.proofs.writer.write.Goals as goal

pub returns-clause-text : goal.returns-clause-text
returns-clause-text c =
    c.in_ok-text.ensures.text (ap has_float c.in_ok-tree.ensures.tree ∙ no_float c.args.calls c.args.profile.now)
    ∙ ap compact_text c.in_ok-tree.ensures.tree

pub returns-then-is_too_large-clause-large : goal.returns-then-is_too_large-clause-large
returns-then-is_too_large-clause-large c = λ is.
    let same = c.in_ok-text.ensures.text (ap has_float c.in_ok-tree.ensures.tree
    ∙ no_float c.args.calls c.args.profile.now) ∙ ap compact_text c.in_ok-tree.ensures.tree in
    subst (λ bytes. MAX_PROFILE_BYTES < length bytes) same
    (subst (λ bytes. MAX_PROFILE_BYTES < length bytes) c.as_str.ensures.value
    (ltb-true MAX_PROFILE_BYTES (length c.as_str.result.now) (sym c.is_too_large.ensures
    ∙ c.if-is_too_large.true)))

pub returns-clause-reads : goal.returns-clause-reads
returns-clause-reads c =
    let writable : is_writable c.args.calls c.args.profile.now ≡ true = search rules in
    let short : length (string_bytes c.in_ok-text.text) ≤ MAX_PROFILE_BYTES =
    subst (λ bytes. length bytes ≤ MAX_PROFILE_BYTES) c.as_str.ensures.value
    (ltb-false MAX_PROFILE_BYTES (length c.as_str.result.now) (sym c.is_too_large.ensures
    ∙ c.if-is_too_large.false)) in
    reads c.args.calls (c.names_and_numbers_agree.ensures.agree c.args.calls) c.args.profile.now
    (view c.in_ok-tree.tree)
    (string_bytes c.in_ok-text.text) c.in_ok-tree.ensures.tree c.in_ok-tree.ensures.fit
    c.in_ok-tree.ensures.fit_default writable (subst IsUtf8 c.as_str.ensures.value c.as_str.utf8)
    c.in_ok-text.ensures.reads_back short
