-- The values that the borrowed parts of a manifest's tree represent: this project's own.
use Rattle.std.specs.Prelude.{map, option_map, unwrap_or}
use Rattle.serde_json.specs.View.{view}
use Rattle.manifest.specs.declared.lent.ContextText.{ContextText}
use Rattle.manifest.specs.declared.lent.IdentityText.{IdentityText}
use Rattle.manifest.specs.declared.lent.TermsText.{TermsText}
use Rattle.manifest.specs.declared.lent.ListsText.{ListsText}
use Rattle.manifest.specs.declared.lent.HeadText.{HeadText}
use Rattle.manifest.specs.Heads.{Context, Head, Identity, Lists, Terms, default_uid}
use Rattle.manifest.specs.Profiles.{profile_seen}

abbrev pub identity_seen : IdentityText → Identity
identity_seen i = record {
  namespace = i.namespace.now;
  name = i.name.now;
  uid = unwrap_or (option_map (λ t. t.now) i.uid) (default_uid i.namespace.now i.name.now);
}

abbrev pub terms_seen : TermsText → Terms
terms_seen t = record { policy = t.policy; grace = t.grace; profile = option_map profile_seen t.profile }

abbrev pub lists_seen : ListsText → Lists
lists_seen l = record { inits = map view l.inits.now; others = map view l.others.now }

abbrev pub head_seen : HeadText → Head
head_seen h = record {
  identity = identity_seen h.identity;
  terms = terms_seen h.terms;
  lists =
      lists_seen h.lists;
}

abbrev pub context_seen : ContextText → Context
context_seen c = record { privileged = c.privileged; profile = option_map profile_seen c.profile }
