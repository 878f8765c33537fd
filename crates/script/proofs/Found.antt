-- What is read is right: each reading that succeeds returns what the tree has.
use Rattle.std.proofs.Common.{◌≡◌, ◌⊎◌, inl, inr, ℕ, ◌<◌, List, [], length, codes, cond, eqb, leb, ltb}
use Rattle.std.proofs.Common.{Bool, true, false, Option, Some, None, Result, Ok, Err, refl, sym, ap, subst}
use Rattle.std.proofs.Common.{◌∙◌, arith}
use Rattle.std.specs.Prelude.{IfOk}
use Rattle.std.specs.List.{list_all}
use Rattle.std.proofs.lemmas.Bool.{eqb-false, ltb-false}
use Rattle.bpf_code.specs.declared.insn.Insn.{Insn}
use Rattle.serde_json.specs.Data.{Data}
use Rattle.serde_json.specs.Find.{get}
use Rattle.json_tree.specs.Tree.{each, has, list, object, text, tree_of, value, whole, wholes, word}
use Rattle.json_tree.specs.declared.faults.TextFault.TheVariants.{NotJson}
use Rattle.json_tree.specs.Reading.{or_else, refuse_if, if_there, as_fault, as_read, document}
use Rattle.json_tree.specs.Reading.{Both, HasField, MayHaveField}
use Rattle.json_place.specs.declared.fields.FieldFaultAt.{FieldFaultAt}
use Rattle.json_place.specs.Parts.{Part, Member}
use Rattle.json_place.specs.Fields.{required, required_each, optional}
use Rattle.json_tree.proofs.Loops.{bind_ok, then_ok}
use Rattle.json_tree.proofs.Fields.{or_else_ok, refuse_if_ok, as_fault_ok}
use Rattle.json_place.proofs.PlacedFields.{required_found, required_each_found, optional_found}
use Rattle.json_tree.proofs.Values.{value_same, object_same, has_not}
use Rattle.script.proofs.Attempts.{each_code_found}
use Rattle.script.proofs.Six.{has_args}
use Rattle.sys_table.specs.declared.calls.CallTable.{CallTable}
use Rattle.sys_table.specs.SysTable.{number_in}
use Rattle.script.specs.declared.faults.ScriptFault.{ScriptFault}
use Rattle.script.specs.declared.placed.ScriptFaultAt.{ScriptFaultAt}
use Rattle.script.specs.Faults.{at, fault_at, fault_here, fault_of_field_at, fault_of_text, fault_within}
use Rattle.script.specs.Faults.{under}
use Rattle.script.specs.declared.faults.ScriptFault.TheVariants.{Missing, WrongType, UnknownCall, TooMany}
use Rattle.script.specs.declared.faults.ScriptFault.TheVariants.{BadCode}
use Rattle.script.specs.declared.scripts.Step.{Step}
use Rattle.script.specs.declared.scripts.Step.TheVariants.{Call, Exit, ExitByAttempt, Install}
use Rattle.script.specs.declared.scripts.TheConstants.{MAX_STEPS}
use Rattle.script.specs.declared.fields.CallFields.{CallFields}
use Rattle.script.specs.declared.reader.StepKind.{StepKind}
use Rattle.script.specs.declared.reader.StepKind.TheVariants as kind
use Rattle.script.specs.declared.install.Row.{Row}
use Rattle.script.specs.Script.{code, row, rows, IsCall, HasArgs, HasArch, HasIp}
use Rattle.script.specs.Script.{HasCallFields, Says, SpellsFilter, IsStep, IsScript, ReadsScriptWith}
use Rattle.script.specs.Reading.{here, items_of, code_of, codes_of, no_row, number_of, call_of}
use Rattle.script.specs.Reading.{args_of, arch_of, ip_of, on_error_of, call_fields_of, exit_of}
use Rattle.script.specs.Reading.{exit_by_attempt_of, rows_of, the_kind, kind_of, call_step_of, exit_step_of}
use Rattle.script.specs.Reading.{exit_by_attempt_step_of, install_step_of, step_of_kind, step_of, text_items}
use Rattle.script.specs.Reading.{StepText, IsReadAs, GivesSteps}
use Rattle.script.specs.Reading.StepText.{Whole, Installs}

here_ok : {A : Type 0} (r : Result A FieldFaultAt) (x : A) → here r ≡ Ok x → r ≡ Ok x
here_ok r x h = as_fault_ok fault_of_field_at r x h

-- the result for a member, and that for the value under a step
at_ok : {A : Type 0} (key : List ℕ) (r : Result A ScriptFault) (x : A) → at key r ≡ Ok x → r ≡ Ok x
at_ok key r x h = as_fault_ok (fault_at key) r x h

under_ok : {A : Type 0} (part : Part) (r : Result A ScriptFaultAt) (x : A) → under part r ≡ Ok x → r ≡ Ok x
under_ok part r x h = as_fault_ok (fault_within part) r x h

code_same : (small : Bool) (n m : ℕ) → cond small (Ok n) (Err BadCode) ≡ Ok m
    → cond small (Some n) None ≡ Some m
code_same true n m h = cc
code_same false n m h = absurd cc

code_found : (tree : Data) (n m : ℕ) → whole tree ≡ Some n → code_of n ≡ Ok m → code tree ≡ Some m
unfolding code code_of
code_found tree n m is h = rw is (code_same (leb n 255) n m h)

may_code_found : (key : List ℕ) (tree : Data) (given on_error : Option ℕ) → MayHaveField whole key tree given
    → if_there code_of given ≡ Ok on_error → MayHaveField code key tree on_error
may_code_found key tree None on_error there h =
    let none : None ≡ on_error = cc in
    subst (MayHaveField code key tree) none there
may_code_found key tree (Some n) on_error there h =
    let small = bind_ok (code_of n) _ _ h in
    let is : Some small.0 ≡ on_error = cc in
    subst (MayHaveField code key tree) is (there.0, there.1, code_found there.0 n small.0 there.2 small.1)

codes_found : (ns ms : List ℕ) → codes_of ns ≡ Ok ms → (0 < length ns) × (list_all (λ n. leb n 255) ns ≡ true)
    × (ms ≡ ns)
unfolding codes_of
codes_found ns ms h =
    let some = then_ok (refuse_if (eqb (length ns) 0) (fault_here Missing)) _ _ h in
    let all = each_code_found [] ns ms some.2 in
    let not_none : length ns ≡ 0 → ⊥ = eqb-false (length ns) 0
    (refuse_if_ok (eqb (length ns) 0) (fault_here Missing) some.0 some.1) in
    (omega arith, all.0, all.1)

number_found : (calls : CallTable) (name : Option (List ℕ)) (number : Option ℕ) (nr : ℕ) → number_of calls name number ≡ Ok nr
    → (number ≡ Some nr) ⊎ ((known : List ℕ) × (name ≡ Some known) × (number_in calls known ≡ Some nr))
number_found calls (Some known) number nr h = inr (known, refl, or_else_ok UnknownCall (number_in calls known) nr h)
number_found calls None number nr h = inl (or_else_ok WrongType number nr h)

call_found : (calls : CallTable) (tree : Data) (nr : ℕ) → call_of calls tree ≡ Ok nr → (named : Data)
    × (get (codes "call") tree ≡ Some named) × IsCall calls named nr
unfolding call_of
call_found calls tree nr h =
    let named = bind_ok (here (required value (codes "call") tree)) _ _ h in
    let field = required_found value (codes "call") tree named.0
    (here_ok (required value (codes "call") tree) named.0 named.1) in
    let same : field.0 ≡ named.0 = value_same field.0 named.0 field.2 in (
      named.0,
      field.1 ∙ ap Some same,
      number_found calls (text named.0) (word named.0) nr
          (at_ok (codes "call") (number_of calls (text named.0) (word named.0)) nr named.2),
    )

args_found : (tree : Data) (args : List ℕ) → args_of tree ≡ Ok args → HasArgs tree args
unfolding args_of
args_found tree args h =
    let items = bind_ok (here (optional list (codes "args") tree)) _ _ h in
    has_args tree items.0 args (optional_found list (codes "args") tree items.0
    (here_ok (optional list (codes "args") tree) items.0 items.1))
    (under_ok (Member (codes "args")) _ args items.2)

arch_found : (tree : Data) (arch : ℕ) → arch_of tree ≡ Ok arch → HasArch tree arch
unfolding arch_of
arch_found tree arch h =
    let given = bind_ok (here (optional word (codes "arch") tree)) _ _ h in
    record {
      given = given.0;
      there = optional_found word (codes "arch") tree given.0
          (here_ok (optional word (codes "arch") tree) given.0 given.1);
      is = cc;
    }

ip_found : (tree : Data) (ip : ℕ) → ip_of tree ≡ Ok ip → HasIp tree ip
unfolding ip_of
ip_found tree ip h =
    let given = bind_ok (here (optional whole (codes "ip") tree)) _ _ h in
    record {
      given = given.0;
      there = optional_found whole (codes "ip") tree given.0
          (here_ok (optional whole (codes "ip") tree) given.0 given.1);
      is = cc;
    }

on_error_found : (tree : Data) (on_error : Option ℕ) → on_error_of tree ≡ Ok on_error
    → MayHaveField code (codes "onError") tree on_error
unfolding on_error_of
on_error_found tree on_error h =
    let given = bind_ok (here (optional whole (codes "onError") tree)) _ _ h in
    may_code_found (codes "onError") tree given.0 on_error
    (optional_found whole (codes "onError") tree given.0
    (here_ok (optional whole (codes "onError") tree) given.0 given.1))
    (at_ok (codes "onError") (if_there code_of given.0) on_error given.2)

call_fields_found : (tree : Data) (fields : CallFields) → call_fields_of tree ≡ Ok fields
    → HasCallFields tree fields
unfolding call_fields_of
call_fields_found tree fields h =
    let args = bind_ok (args_of tree) _ _ h in
    let arch = bind_ok (arch_of tree) _ _ args.2 in
    let ip = bind_ok (ip_of tree) _ _ arch.2 in
    let on_error = bind_ok (on_error_of tree) _ _ ip.2 in
    let is : record { args = args.0; arch = arch.0; ip = ip.0; on_error = on_error.0 } ≡ fields = cc in
    subst (HasCallFields tree) is (record {
      args = args_found tree args.0 args.1;
      arch = arch_found tree arch.0 arch.1;
      ip = ip_found tree ip.0 ip.1;
      on_error = on_error_found tree on_error.0 on_error.1;
    })

exit_found : (tree : Data) (ends : ℕ) → exit_of tree ≡ Ok ends → HasField code (codes "exit") tree ends
unfolding exit_of
exit_found tree ends h =
    let given = bind_ok (here (required whole (codes "exit") tree)) _ _ h in
    let field = required_found whole (codes "exit") tree given.0
    (here_ok (required whole (codes "exit") tree) given.0 given.1) in (
      field.0,
      field.1,
      code_found field.0 given.0 ends field.2
          (at_ok (codes "exit") (code_of given.0) ends given.2),
    )

abbrev FlagsAre : Bool → Bool → Bool → Bool → StepKind → Type 0
FlagsAre call exit by_attempt install kind.Call = (exit ≡ false) × (by_attempt ≡ false) × (install ≡ false)
FlagsAre call exit by_attempt install kind.Exit = (call ≡ false) × (by_attempt ≡ false) × (install ≡ false)
FlagsAre call exit by_attempt install kind.ExitByAttempt = (call ≡ false) × (exit ≡ false) × (install ≡ false)
FlagsAre call exit by_attempt install kind.Install = (call ≡ false) × (exit ≡ false) × (by_attempt ≡ false)

the_kind_found : (call exit by_attempt install : Bool) (is : StepKind)
    → the_kind call exit by_attempt install ≡ Ok is → FlagsAre call exit by_attempt install is
the_kind_found true false false false kind.Call h = (refl, refl, refl)
the_kind_found false true false false kind.Exit h = (refl, refl, refl)
the_kind_found false false true false kind.ExitByAttempt h = (refl, refl, refl)
the_kind_found false false false true kind.Install h = (refl, refl, refl)
the_kind_found _ _ _ _ _ h = absurd cc

kind_found : (tree : Data) (is : StepKind) → kind_of tree ≡ Ok is
    → FlagsAre (has (codes "call") tree) (has (codes "exit") tree) (has (codes "exitByAttempt") tree)
    (has (codes "install") tree) is
unfolding kind_of
kind_found tree is h = the_kind_found (has (codes "call") tree) (has (codes "exit") tree)
    (has (codes "exitByAttempt") tree) (has (codes "install") tree) is h

whole_ok : (r : Result Step ScriptFaultAt) (text : StepText) (step : Step) → as_read Whole r ≡ Ok text
    → IsReadAs text step → r ≡ Ok step
whole_ok (Ok known) (Whole other) step h is =
    let same : known ≡ other = cc in
    ap Ok (same ∙ sym is)
whole_ok (Ok known) (Installs numbers on_error) step h is = absurd cc
whole_ok (Err fault) text step h is = absurd cc

call_says : (calls : CallTable) (tree : Data) (step : Step)
    → FlagsAre (has (codes "call") tree) (has (codes "exit") tree) (has (codes "exitByAttempt") tree)
    (has (codes "install") tree) kind.Call
    → call_step_of calls tree ≡ Ok step → Says calls tree step
unfolding call_step_of
call_says calls tree step flags h =
    let nr = bind_ok (call_of calls tree) _ _ h in
    let fields = bind_ok (call_fields_of tree) _ _ nr.2 in
    let call = call_found calls tree nr.0 nr.1 in
    let is : Call (record { nr = nr.0; arch = fields.0.arch; ip = fields.0.ip; args = fields.0.args })
    fields.0.on_error ≡ step = cc in
    subst (Says calls tree) is (record {
      no_exit = has_not (codes "exit") tree flags.0;
      no_exit_by_attempt = has_not (codes "exitByAttempt") tree flags.1;
      no_install = has_not (codes "install") tree flags.2;
      named = call.0;
      there = call.1;
      number = call.2;
      fields = call_fields_found tree fields.0 fields.1;
    })

exit_says : (calls : CallTable) (tree : Data) (step : Step)
    → FlagsAre (has (codes "call") tree) (has (codes "exit") tree) (has (codes "exitByAttempt") tree)
    (has (codes "install") tree) kind.Exit
    → exit_step_of tree ≡ Ok step → Says calls tree step
unfolding exit_step_of
exit_says calls tree step flags h =
    let beside = bind_ok (call_fields_of tree) _ _ h in
    let ends = bind_ok (exit_of tree) _ _ beside.2 in
    let is : Exit ends.0 ≡ step = cc in
    subst (Says calls tree) is (record {
      no_call = has_not (codes "call") tree flags.0;
      no_exit_by_attempt = has_not (codes "exitByAttempt") tree flags.1;
      no_install = has_not (codes "install") tree flags.2;
      beside = beside.0;
      fields = call_fields_found tree beside.0 beside.1;
      exit = exit_found tree ends.0 ends.1;
    })

exit_by_attempt_says : (calls : CallTable) (tree : Data) (step : Step)
    → FlagsAre (has (codes "call") tree) (has (codes "exit") tree) (has (codes "exitByAttempt") tree)
    (has (codes "install") tree) kind.ExitByAttempt
    → exit_by_attempt_step_of tree ≡ Ok step → Says calls tree step
unfolding exit_by_attempt_step_of exit_by_attempt_of
exit_by_attempt_says calls tree step flags h =
    let beside = bind_ok (call_fields_of tree) _ _ h in
    let ends = bind_ok (exit_by_attempt_of tree) _ _ beside.2 in
    let given = bind_ok (here (required_each whole wholes (codes "exitByAttempt") tree)) _ _ ends.1 in
    let all = codes_found given.0 ends.0 (under_ok (Member (codes "exitByAttempt"))
    (codes_of given.0) ends.0 given.2) in
    let is : ExitByAttempt given.0 ≡ step = cc in
    subst (Says calls tree) is (record {
      no_call = has_not (codes "call") tree flags.0;
      no_exit = has_not (codes "exit") tree flags.1;
      no_install = has_not (codes "install") tree flags.2;
      beside = beside.0;
      fields = call_fields_found tree beside.0 beside.1;
      numbers = required_each_found whole wholes (codes "exitByAttempt") tree given.0
          (here_ok (required_each whole wholes (codes "exitByAttempt") tree) given.0 given.1);
      some = all.0;
      small = all.1;
    })

installs_same : (numbers : List Row) (on_error : Option ℕ) (text : StepText) (step : Step)
    → Installs numbers on_error ≡ text → IsReadAs text step
    → (filter : List Insn) × SpellsFilter numbers filter × (step ≡ Install filter on_error)
installs_same numbers on_error text step same is = subst (λ t. IsReadAs t step) (sym same) is

rows_found : (tree : Data) (numbers : List Row) → rows_of tree ≡ Ok numbers
    → HasField rows (codes "install") tree numbers
unfolding rows_of rows
rows_found tree numbers h =
    let items = bind_ok (here (required list (codes "install") tree)) _ _ h in
    let field = required_found list (codes "install") tree items.0
    (here_ok (required list (codes "install") tree) items.0 items.1) in
    let spelled = under_ok (Member (codes "install")) (or_else (no_row items.0) (each row items.0)) numbers
    items.2 in
    (field.0, field.1, rw field.2 (or_else_ok (no_row items.0) (each row items.0) numbers spelled))

install_says : (calls : CallTable) (tree : Data) (text : StepText) (step : Step)
    → FlagsAre (has (codes "call") tree) (has (codes "exit") tree) (has (codes "exitByAttempt") tree)
    (has (codes "install") tree) kind.Install
    → install_step_of tree ≡ Ok text → IsReadAs text step → Says calls tree step
unfolding install_step_of
install_says calls tree text step flags h read =
    let beside = bind_ok (call_fields_of tree) _ _ h in
    let numbers = bind_ok (rows_of tree) _ _ beside.2 in
    let same : Installs numbers.0 beside.0.on_error ≡ text = cc in
    let is = installs_same numbers.0 beside.0.on_error text step same read in
    subst (Says calls tree) (sym is.2) (record {
      no_call = has_not (codes "call") tree flags.0;
      no_exit = has_not (codes "exit") tree flags.1;
      no_exit_by_attempt = has_not (codes "exitByAttempt") tree flags.2;
      beside = beside.0;
      fields = call_fields_found tree beside.0 beside.1;
      ends = refl;
      numbers = numbers.0;
      there = rows_found tree numbers.0 numbers.1;
      spelled = is.1;
    })

says_found : (calls : CallTable) (tree : Data) (is : StepKind) (text : StepText) (step : Step) → kind_of tree ≡ Ok is
    → step_of_kind calls is tree ≡ Ok text → IsReadAs text step → Says calls tree step
says_found calls tree kind.Call text step alone h read =
    call_says calls tree step (kind_found tree kind.Call alone) (whole_ok (call_step_of calls tree) text step h read)
says_found calls tree kind.Exit text step alone h read =
    exit_says calls tree step (kind_found tree kind.Exit alone) (whole_ok (exit_step_of tree) text step h read)
says_found calls tree kind.ExitByAttempt text step alone h read =
    exit_by_attempt_says calls tree step (kind_found tree kind.ExitByAttempt alone)
    (whole_ok (exit_by_attempt_step_of tree) text step h read)
says_found calls tree kind.Install text step alone h read =
    install_says calls tree text step (kind_found tree kind.Install alone) h read

-- the reading of a tree, with its filter checked, is a step
pub step_found : (calls : CallTable) (item : Data) (text : StepText) (step : Step) → step_of calls item ≡ Ok text → IsReadAs text step
    → IsStep calls item step
unfolding step_of
step_found calls item text step h read =
    let tree = bind_ok (or_else (fault_here WrongType) (object item)) _ _ h in
    let is_object : object item ≡ Some tree.0 =
    or_else_ok (fault_here WrongType) (object item) tree.0 tree.1 in
    let same : tree.0 ≡ item = sym (object_same item tree.0 is_object) in
    let is = bind_ok (kind_of tree.0) _ _ tree.2 in (
      is_object ∙ ap Some same,
      subst (λ t. Says calls t step) same
          (says_found calls tree.0 is.0 text step is.1 is.2 read),
    )

items_found : (calls : CallTable) (whole_tree : Data) (steps : List Step) (items : List Data) → items_of whole_tree ≡ Ok items
    → Both (IsStep calls) items steps → IsScript calls whole_tree steps
unfolding items_of
items_found calls whole_tree steps given all each =
    let tree = bind_ok (or_else (fault_here WrongType) (object whole_tree)) _ _ all in
    let is_object : object whole_tree ≡ Some tree.0 =
    or_else_ok (fault_here WrongType) (object whole_tree) tree.0 tree.1 in
    let same : tree.0 ≡ whole_tree = sym (object_same whole_tree tree.0 is_object) in
    let items = bind_ok (here (required list (codes "steps") tree.0)) _ _ tree.2 in
    let few = then_ok (refuse_if (ltb MAX_STEPS (length items.0)) (fault_at (codes "steps") TooMany)) _ _
    items.2 in
    let there = required_found list (codes "steps") tree.0 items.0
    (here_ok (required list (codes "steps") tree.0) items.0 items.1) in
    let is : items.0 ≡ given = cc in
    record {
      an_object = is_object ∙ ap Some same;
      items = items.0;
      there = subst (λ t. HasField list (codes "steps") t items.0) same there;
      few = ltb-false MAX_STEPS (length items.0)
          (refuse_if_ok (ltb MAX_STEPS (length items.0)) (fault_at (codes "steps") TooMany) few.0 few.1);
      each = subst (λ ds. Both (IsStep calls) ds steps) (sym is) each;
    }

reading_found : (calls : CallTable) (bytes : List ℕ) (steps : List Step) (items : List Data) → text_items bytes ≡ Ok items
    → Both (IsStep calls) items steps → ReadsScriptWith calls bytes steps
unfolding text_items document
reading_found calls bytes steps items h each =
    let tree = bind_ok (as_fault (λ fault. fault_here (fault_of_text fault)) (document bytes)) _ _ h in (
      tree.0,
      or_else_ok NotJson (tree_of bytes) tree.0
          (as_fault_ok (λ fault. fault_here (fault_of_text fault)) (document bytes) tree.0 tree.1),
      items_found calls tree.0 steps items tree.2 each,
    )

-- the returned script is the text's script
pub found : (calls : CallTable) (bytes : List ℕ) (result : Result (List Step) ScriptFaultAt)
    → GivesSteps calls result (text_items bytes) → IfOk result (ReadsScriptWith calls bytes)
found calls bytes (Ok steps) h = reading_found calls bytes steps h.0 h.1 h.2
found calls bytes (Err fault) h = tt
