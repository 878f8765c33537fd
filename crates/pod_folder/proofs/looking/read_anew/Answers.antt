use Rattle.std.proofs.Common.{rules}
use Rattle.std.specs.String.{string_bytes}
use Rattle.pod_folder.proofs.ReadFiles.{is_read}
use Rattle.pod_folder.proofs.looking.read_anew.Goals as goal

pub returns-clause-read : goal.returns-clause-read
returns-clause-read g c = is_read (g.F.FolderFiles.held c.args.files.now) g.T.ManifestReader.reads
    (string_bytes c.args.name) c.in-Ok.bytes.items c.in-Pod-2.manifest c.of-in-Pod-2.result.file.asks
    (search rules) (search rules) (search rules)
