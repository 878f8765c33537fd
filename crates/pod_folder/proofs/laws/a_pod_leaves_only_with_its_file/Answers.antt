use Rattle.pod_folder.proofs.RunsOfFolders.{only_what_is_gone}
use Rattle.pod_folder.proofs.laws.a_pod_leaves_only_with_its_file.Goals as goal

pub returns : goal.returns
returns c = only_what_is_gone
