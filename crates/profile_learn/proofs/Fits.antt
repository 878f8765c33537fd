-- A copy of one of a profile's entries is as a profile's type asks.
use Rattle.std.proofs.Common.{◌≡◌, ℕ, ◌<◌, List, [], ◌∷◌, ◌++◌, get_or, length, subst, sym}
use Rattle.std.proofs.lemmas.List.Elements.{All-push}
use Rattle.oci_profile.specs.declared.profile.Entry.{Entry}
use Rattle.oci_profile.specs.Entries.{AreEntries, IsFit}

pub entry_pushed : (entries base : List Entry) (at : ℕ) (entry : Entry) → AreEntries entries → AreEntries base
    → at < length base → entry ≡ get_or base at entry → AreEntries (entries ++ entry ∷ [])
entry_pushed entries base at entry fit all inside is =
    All-push IsFit entries entry fit (subst IsFit (sym is) (all at entry inside))
