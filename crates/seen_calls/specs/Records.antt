-- The calls of a container's record, in the form of `cell_records`: this project's own, docs/SEMANTICS.md,
-- "Records of containers".
use Rattle.std.specs.Prelude.{ℕ, List, [], codes, unwrap_or, Result, Ok, Err}
use Rattle.serde_json.specs.Data.{Data}
use Rattle.json_tree.specs.Reading.{◌>>=◌, document, in_order_after, optional, required}
use Rattle.json_tree.specs.Tree.{list, word}
use Rattle.json_tree.specs.declared.faults.FieldFault.{FieldFault}
use Rattle.json_tree.specs.declared.faults.TextFault.{TextFault}
use Rattle.seen_calls.specs.declared.faults.LineFault.{LineFault}
use Rattle.seen_calls.specs.declared.records.ListedCall.{ListedCall}
use Rattle.seen_calls.specs.Faults.{of_field, of_text}

abbrev pub member : {A : Type 0} → Result A FieldFault → Result A LineFault
member (Ok x) = Ok x
member (Err fault) = Err (of_field fault)

-- a call of the list: one without an architecture is one of x86-64
unfoldable pub call_of : Data → Result ListedCall LineFault
call_of tree = do
  nr ← member (required word (codes "nr") tree)
  arch ← member (optional word (codes "arch") tree)
  Ok (record { nr = nr; arch = unwrap_or arch 0xc000003e })

abbrev pub as_line : Result Data TextFault → Result Data LineFault
as_line (Ok tree) = Ok tree
as_line (Err fault) = Err (of_text fault)

-- all calls of the list, performed or denied
abbrev pub record_of : Data → Result (List ListedCall) LineFault
record_of tree = member (required list (codes "calls") tree)
    >>= λ calls. in_order_after (λ done item. call_of item) [] calls

abbrev pub line_of : List ℕ → Result (List ListedCall) LineFault
line_of line = as_line (document line) >>= λ tree. record_of tree
