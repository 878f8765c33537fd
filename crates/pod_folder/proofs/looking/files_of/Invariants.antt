-- The files so far have the names that were taken, in their order.
use Rattle.std.proofs.Common.{◌≡◌, ◌++◌, map}
use Rattle.std.specs.String.{string_bytes}
use Rattle.pod_folder.specs.Looking.{names_of}
use Rattle.pod_folder.proofs.looking.files_of.Given as goal

abbrev pub invariant-loop-name : goal.invariant-loop-name
invariant-loop-name l = names_of l.files.items ++ map string_bytes l.name-iterator.rest.items
    ≡ map string_bytes l.fn.names.items
