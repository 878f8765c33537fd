-- The names of faults as programs print them, this project's own: docs/SEMANTICS.md, "Frames".
use Rattle.std.specs.Prelude.{ℕ, List, ◌++◌, codes}
use Rattle.std.specs.Fmt.{decimal}
use Rattle.cri_frames.specs.declared.faults.FeedFault.{FeedFault}
use Rattle.cri_frames.specs.declared.faults.FeedFault.TheVariants.{BadLength, Memory}
use Rattle.cri_frames.specs.declared.faults.Lost.{Lost}
use Rattle.cri_frames.specs.declared.faults.Lost.TheVariants.{WriteFailed, ReadFailed, Ended, BadFrame}
use Rattle.cri_frames.specs.declared.faults.Lost.TheVariants.{WrongNumber, Memory as LostMemory}

abbrev pub feed_fault_text : FeedFault → List ℕ
feed_fault_text BadLength = codes "BadLength"
feed_fault_text Memory = codes "Memory"

abbrev pub lost_text : Lost → List ℕ
lost_text (WriteFailed count) = codes "WriteFailed at " ++ decimal count
lost_text ReadFailed = codes "ReadFailed"
lost_text Ended = codes "Ended"
lost_text BadFrame = codes "BadFrame"
lost_text WrongNumber = codes "WrongNumber"
lost_text LostMemory = codes "Memory"
