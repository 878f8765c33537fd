-- Every script is read: each reading of its tree succeeds and returns what the tree has.
use Rattle.std.proofs.Common.{◌≡◌, inl, inr, ℕ, ◌<◌, List, [], ◌∷◌, length, codes, cond, leb, Bool}
use Rattle.std.proofs.Common.{true, false, Option, Some, None, Ok, Err, refl, sym, ap, arith}
use Rattle.std.specs.List.{list_all}
use Rattle.std.proofs.Math.Dec.{eqb-suc-zero}
use Rattle.std.proofs.lemmas.Bool.{le-ltb}
use Rattle.bpf_code.specs.declared.insn.Insn.{Insn}
use Rattle.serde_json.specs.Data.{Data}
use Rattle.serde_json.specs.Find.{get}
use Rattle.json_tree.specs.Tree.{each, has, list, value, whole, wholes, word}
use Rattle.json_tree.specs.Reading.{if_there, as_read, document, Both, HasField, MayHaveField}
use Rattle.json_tree.proofs.Items.{and_then_some}
use Rattle.json_place.proofs.PlacedFields.{required_only, required_each_only, optional_only}
use Rattle.json_place.specs.Parts.{Member}
use Rattle.json_tree.proofs.Values.{word_no_text, whole_is_value, word_is_value, text_is_value}
use Rattle.json_tree.proofs.Values.{wholes_is_value, list_is_value, not_there, is_there}
use Rattle.call_data.specs.declared.sys_call.SysCall.{SysCall}
use Rattle.script.proofs.Attempts.{each_code_only}
use Rattle.script.proofs.Six.{args_only}
use Rattle.script.specs.Faults.{at, under}
use Rattle.sys_table.specs.declared.calls.CallTable.{CallTable}
use Rattle.script.specs.declared.faults.ScriptFault.TheVariants.{BadCode}
use Rattle.script.specs.declared.scripts.Step.{Step}
use Rattle.script.specs.declared.scripts.Step.TheVariants.{Call, Exit, ExitByAttempt, Install}
use Rattle.script.specs.declared.scripts.TheConstants.{MAX_STEPS}
use Rattle.script.specs.declared.fields.CallFields.{CallFields}
use Rattle.script.specs.declared.install.Row.{Row}
use Rattle.script.specs.declared.reader.StepKind.TheVariants as kind
use Rattle.script.specs.Script.{code, row, rows, IsCall, HasArch, HasIp, HasCallFields, IsCallStep}
use Rattle.script.specs.Script.{IsExitStep, IsExitByAttemptStep, IsInstallStep, IsStep, ReadsScriptWith}
use Rattle.script.specs.Reading.{code_of, codes_of, call_of, arch_of, ip_of, on_error_of, call_fields_of}
use Rattle.script.specs.Reading.{exit_of, exit_by_attempt_of, rows_of, kind_of, call_step_of, exit_step_of}
use Rattle.script.specs.Reading.{exit_by_attempt_step_of, install_step_of, step_of, items_of, text_items}
use Rattle.script.specs.Reading.{StepText, IsReadAs}
use Rattle.script.specs.Reading.StepText.{Whole, Installs}

code_same : (small : Bool) (n m : ℕ) → cond small (Some n) None ≡ Some m
    → cond small (Ok n) (Err BadCode) ≡ Ok m
code_same true n m h = cc
code_same false n m h = absurd cc

code_only : (tree : Data) (m : ℕ) → code tree ≡ Some m → (n : ℕ) × (whole tree ≡ Some n) × (code_of n ≡ Ok m)
unfolding code code_of
code_only tree m h =
    let n = and_then_some _ (whole tree) m h in
    (n.0, n.1, code_same (leb n.0 255) n.0 m n.2)

may_code_only : (key : List ℕ) (tree : Data) (on_error : Option ℕ) → MayHaveField code key tree on_error
    → (given : Option ℕ) × MayHaveField whole key tree given × (if_there code_of given ≡ Ok on_error)
may_code_only key tree None there = (None, there, refl)
may_code_only key tree (Some m) there =
    let n = code_only there.0 m there.2 in
    (Some n.0, (there.0, there.1, n.1), rw n.2 refl)

codes_only : (ns : List ℕ) → 0 < length ns → list_all (λ n. leb n 255) ns ≡ true → codes_of ns ≡ Ok ns
unfolding codes_of
codes_only [] some h = absurd (omega arith)
codes_only (n ∷ ns) some h = rw (eqb-suc-zero (length ns)) (each_code_only [] (n ∷ ns) h)

call_only : (calls : CallTable) (tree named : Data) (nr : ℕ) → get (codes "call") tree ≡ Some named → IsCall calls named nr
    → call_of calls tree ≡ Ok nr
unfolding call_of
call_only calls tree named nr there (inl number) =
    rw (
      required_only value (codes "call") tree named (named, there, word_is_value named nr number),
      word_no_text named nr number,
      number,
    ) refl
call_only calls tree named nr there (inr name) =
    rw (
      required_only value (codes "call") tree named (named, there, text_is_value named name.0 name.1),
      name.1,
      name.2,
    ) refl

arch_only : (tree : Data) (arch : ℕ) → HasArch tree arch → arch_of tree ≡ Ok arch
unfolding arch_of
arch_only tree arch h = rw (optional_only word (codes "arch") tree h.given h.there) (ap Ok (sym h.is))

ip_only : (tree : Data) (ip : ℕ) → HasIp tree ip → ip_of tree ≡ Ok ip
unfolding ip_of
ip_only tree ip h = rw (optional_only whole (codes "ip") tree h.given h.there) (ap Ok (sym h.is))

on_error_only : (tree : Data) (on_error : Option ℕ) → MayHaveField code (codes "onError") tree on_error
    → on_error_of tree ≡ Ok on_error
unfolding on_error_of
on_error_only tree on_error h =
    let given = may_code_only (codes "onError") tree on_error h in
    rw (optional_only whole (codes "onError") tree given.0 given.1) (ap (at (codes "onError")) given.2)

call_fields_only : (tree : Data) (fields : CallFields) → HasCallFields tree fields
    → call_fields_of tree ≡ Ok fields
unfolding call_fields_of
call_fields_only tree fields h = rw (
  args_only tree fields.args h.args,
  arch_only tree fields.arch h.arch,
  ip_only tree fields.ip h.ip,
  on_error_only tree fields.on_error h.on_error,
) refl

exit_only : (tree : Data) (ends : ℕ) → HasField code (codes "exit") tree ends → exit_of tree ≡ Ok ends
unfolding exit_of
exit_only tree ends h =
    let given = code_only h.0 ends h.2 in
    rw (required_only whole (codes "exit") tree given.0 (h.0, h.1, given.1)) (ap (at (codes "exit")) given.2)

exit_by_attempt_only : (tree : Data) (ends : List ℕ) → HasField wholes (codes "exitByAttempt") tree ends
    → 0 < length ends → list_all (λ n. leb n 255) ends ≡ true → exit_by_attempt_of tree ≡ Ok ends
unfolding exit_by_attempt_of
exit_by_attempt_only tree ends h some small =
    rw (required_each_only whole wholes (codes "exitByAttempt") tree ends h)
    (ap (under (Member (codes "exitByAttempt"))) (codes_only ends some small))

call_is_there : (calls : CallTable) (tree named : Data) (nr : ℕ) → get (codes "call") tree ≡ Some named → IsCall calls named nr
    → has (codes "call") tree ≡ true
call_is_there calls tree named nr there (inl number) =
    is_there (codes "call") tree named there (word_is_value named nr number)
call_is_there calls tree named nr there (inr name) =
    is_there (codes "call") tree named there (text_is_value named name.0 name.1)

call_kind : (calls : CallTable) (tree : Data) (call : SysCall) (on_error : Option ℕ) → IsCallStep calls tree call on_error
    → kind_of tree ≡ Ok kind.Call
unfolding kind_of
call_kind calls tree call on_error h = rw (
  call_is_there calls tree h.named call.nr h.there h.number,
  not_there (codes "exit") tree h.no_exit,
  not_there (codes "exitByAttempt") tree h.no_exit_by_attempt,
  not_there (codes "install") tree h.no_install,
) refl

exit_kind : (tree : Data) (ends : ℕ) → IsExitStep tree ends → kind_of tree ≡ Ok kind.Exit
unfolding kind_of
exit_kind tree ends h =
    let given = code_only h.exit.0 ends h.exit.2 in
    rw (
      not_there (codes "call") tree h.no_call,
      is_there (codes "exit") tree h.exit.0 h.exit.1 (whole_is_value h.exit.0 given.0 given.1),
      not_there (codes "exitByAttempt") tree h.no_exit_by_attempt,
      not_there (codes "install") tree h.no_install,
    ) refl

exit_by_attempt_kind : (tree : Data) (ends : List ℕ) → IsExitByAttemptStep tree ends
    → kind_of tree ≡ Ok kind.ExitByAttempt
unfolding kind_of
exit_by_attempt_kind tree ends h =
    rw (
      not_there (codes "call") tree h.no_call,
      not_there (codes "exit") tree h.no_exit,
      is_there (codes "exitByAttempt") tree h.numbers.0 h.numbers.1
          (wholes_is_value h.numbers.0 ends h.numbers.2),
      not_there (codes "install") tree h.no_install,
    ) refl

install_kind : (tree : Data) (filter : List Insn) (on_error : Option ℕ) → IsInstallStep tree filter on_error
    → kind_of tree ≡ Ok kind.Install
unfolding kind_of rows
install_kind tree filter on_error h =
    let items = and_then_some (each row) (list h.there.0) h.numbers h.there.2 in
    rw (
      not_there (codes "call") tree h.no_call,
      not_there (codes "exit") tree h.no_exit,
      not_there (codes "exitByAttempt") tree h.no_exit_by_attempt,
      is_there (codes "install") tree h.there.0 h.there.1 (list_is_value h.there.0 items.0 items.1),
    ) refl

call_step_only : (calls : CallTable) (tree : Data) (call : SysCall) (on_error : Option ℕ) → IsCallStep calls tree call on_error
    → call_step_of calls tree ≡ Ok (Call call on_error)
unfolding call_step_of
call_step_only calls tree call on_error h =
    let beside : CallFields = record {
      args = call.args;
      arch = call.arch;
      ip = call.ip;
      on_error =
          on_error;
    } in
    rw (call_only calls tree h.named call.nr h.there h.number, call_fields_only tree beside h.fields) refl

exit_step_only : (tree : Data) (ends : ℕ) → IsExitStep tree ends → exit_step_of tree ≡ Ok (Exit ends)
unfolding exit_step_of
exit_step_only tree ends h = rw (call_fields_only tree h.beside h.fields, exit_only tree ends h.exit) refl

exit_by_attempt_step_only : (tree : Data) (ends : List ℕ) → IsExitByAttemptStep tree ends
    → exit_by_attempt_step_of tree ≡ Ok (ExitByAttempt ends)
unfolding exit_by_attempt_step_of
exit_by_attempt_step_only tree ends h =
    rw (call_fields_only tree h.beside h.fields, exit_by_attempt_only tree ends h.numbers h.some h.small) refl

rows_only : (tree : Data) (numbers : List Row) → HasField rows (codes "install") tree numbers
    → rows_of tree ≡ Ok numbers
unfolding rows_of rows
rows_only tree numbers h =
    let items = and_then_some (each row) (list h.0) numbers h.2 in
    rw (required_only list (codes "install") tree items.0 (h.0, h.1, items.1), items.2) refl

install_step_only : (tree : Data) (filter : List Insn) (on_error : Option ℕ)
    (h : IsInstallStep tree filter on_error) → install_step_of tree ≡ Ok (Installs h.numbers on_error)
unfolding install_step_of
install_step_only tree filter on_error h =
    rw (call_fields_only tree h.beside h.fields, rows_only tree h.numbers h.there)
    (ap (λ (e : Option ℕ). Ok (Installs h.numbers e)) (sym h.ends))

-- a step of a tree is its reading, with its filter checked
pub step_only : (calls : CallTable) (item : Data) (step : Step) → IsStep calls item step → (text : StepText) × (step_of calls item ≡ Ok text)
    × IsReadAs text step
unfolding step_of
step_only calls item (Call call on_error) h = (
  Whole (Call call on_error),
  rw (h.0, call_kind calls item call on_error h.1)
      (ap (as_read Whole) (call_step_only calls item call on_error h.1)),
  refl,
)
step_only calls item (Exit ends) h = (
  Whole (Exit ends),
  rw (h.0, exit_kind item ends h.1) (ap (as_read Whole) (exit_step_only item ends h.1)),
  refl,
)
step_only calls item (ExitByAttempt ends) h = (
  Whole (ExitByAttempt ends),
  rw (h.0, exit_by_attempt_kind item ends h.1)
      (ap (as_read Whole) (exit_by_attempt_step_only item ends h.1)),
  refl,
)
step_only calls item (Install filter on_error) h = (
  Installs h.1.numbers on_error,
  rw (h.0, install_kind item filter on_error h.1)
      (install_step_only item filter on_error h.1),
  (filter, h.1.spelled, refl),
)

-- the items of a text's script
pub items_only : (calls : CallTable) (bytes : List ℕ) (steps : List Step) → ReadsScriptWith calls bytes steps → (items : List Data)
    × (text_items bytes ≡ Ok items) × Both (IsStep calls) items steps
unfolding text_items items_of document
items_only calls bytes steps h =
    let s = h.2 in (
      s.items,
      rw (
        h.1,
        s.an_object,
        required_only list (codes "steps") h.0 s.items s.there,
        le-ltb MAX_STEPS (length s.items) s.few,
      ) refl,
      s.each,
    )
