-- The names so far and those that are left to be listed are those of the whole listing.
use Rattle.std.proofs.Common.{◌≡◌, map}
use Rattle.std.specs.String.{string_bytes}
use Rattle.pod_folder.specs.Names.{AreNamesWith}
use Rattle.pod_folder.proofs.names.names_in.Given as goal

abbrev pub invariant-loop : goal.invariant-loop
invariant-loop g l = record {
  names : AreNamesWith (g.E.Entries.rest l.fn.entries) (g.E.Entries.rest l.entries)
      (map string_bytes l.names.items);
  unfailed : g.E.Entries.failed l.entries ≡ g.E.Entries.failed l.fn.entries;
}
