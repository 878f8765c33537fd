use Rattle.std.proofs.Common.{◌≡◌, ◌∙◌, [], ◌++◌, ap, sym, arith, length, slice_get, option_to_list}
use Rattle.std.proofs.lemmas.List.{append-nil}
use Rattle.bpf_code.specs.declared.insn.Insn.{Insn}
use Rattle.std.proofs.Common.{List}
use Rattle.runtime_cell.specs.declared.acts.Act.TheVariants as act
use Rattle.runtime_cell.specs.Keeps.{filter_in, seen}
use Rattle.runtime_cell.proofs.Kept.{goes_within, stops_within, goes_held, stops_held, over_held, onward}
use Rattle.runtime_cell.proofs.Kept.{own_here, rest_here, spare_here, place_here, next_seen}
use Rattle.runtime_cell.proofs.cell.Cell.step.Goals as goal

pub add-requires : goal.add-requires
add-requires c =
    let k = c.self.inside in
    let old = seen k.label k.script k.profile k.stack.filters k.start k.entries.items k.state in
    let is = next_seen old c.args.self.now (act.Goes c.in-Goes.entry) c.self.view_is c.in-Goes.ensures in
    omega (arith, c.self.invariant.1, goes_within old c.in-Goes.entry [] is)

pub add-requires-in-Adds : goal.add-requires-in-Adds
add-requires-in-Adds c =
    let k = c.self.inside in
    let old = seen k.label k.script k.profile k.stack.filters k.start k.entries.items k.state in
    let is = next_seen old c.args.self.now (act.Adds c.in-Adds.entry) c.self.view_is c.in-Adds.ensures in
    omega (arith, c.self.invariant.1, goes_within old c.in-Adds.entry _ is)

pub add-requires-in-Stops : goal.add-requires-in-Stops
add-requires-in-Stops c =
    let k = c.self.inside in
    let old = seen k.label k.script k.profile k.stack.filters k.start k.entries.items k.state in
    let is = next_seen old c.args.self.now (act.Stops c.in-Stops.entry c.in-Stops.code) c.self.view_is
    c.in-Stops.ensures in
    omega (arith, c.self.invariant.1, stops_within old c.in-Stops.entry c.in-Stops.code is)

pub install-requires-clause-room : goal.install-requires-clause-room
install-requires-clause-room c =
    let k = c.self.inside in
    let own : option_to_list c.take_copy-copy.result
    ≡ filter_in (slice_get k.script (length k.entries.items)) =
    own_here k.script c.steps.result.now c.len.result (length k.entries.items) _ c.take_copy-copy.ensures.copy
    c.steps.ensures.value (omega (arith, c.len.ensures)) in
    spare_here k.script (length k.entries.items) k.copies.items (option_to_list c.take_copy-copy.result)
    k.stack.room k.state c.in-Running.is c.self.invariant.2 own

pub install-requires-clause-place : goal.install-requires-clause-place
install-requires-clause-place c =
    let k = c.self.inside in
    let old = seen k.label k.script k.profile k.stack.filters k.start k.entries.items k.state in
    let is = next_seen old c.args.self.now (act.Adds c.in-Adds.entry) c.self.view_is c.in-Adds.ensures in
    let own : option_to_list c.take_copy-copy.result
    ≡ filter_in (slice_get k.script (length k.entries.items)) =
    own_here k.script c.steps.result.now c.len.result (length k.entries.items) _ c.take_copy-copy.ensures.copy
    c.steps.ensures.value (omega (arith, c.len.ensures)) in
    place_here k.stack.filters k.start k.label.attempt _ c.in-Adds.entry c.take_copy-copy.result own is

pub invariant_of-self : goal.invariant_of-self
invariant_of-self c =
    let k = c.self.inside in
    let old = seen k.label k.script k.profile k.stack.filters k.start k.entries.items k.state in
    let is = next_seen old c.args.self.now (act.Goes c.in-Goes.entry) c.self.view_is c.in-Goes.ensures in
    let own : option_to_list c.take_copy-copy.result
    ≡ filter_in (slice_get k.script (length k.entries.items)) =
    own_here k.script c.steps.result.now c.len.result (length k.entries.items) _ c.take_copy-copy.ensures.copy
    c.steps.ensures.value (omega (arith, c.len.ensures)) in
    let rest = rest_here k.script c.steps.result.now c.len.result
    (length k.entries.items) _ c.take_copy-copy.ensures.rest c.steps.ensures.value
    (omega (arith, c.len.ensures)) in
    goes_held c.stacks_judge_every_call.ensures.one k.label k.script k.profile k.stack.filters k.stack.filters
    k.start k.entries.items _ _ _ k.copies.items _ _ k.stack.room k.stack.room k.state c.in-Goes.entry []
    c.self.invariant c.in-Running.is (sym (append-nil k.stack.filters)) c.add.ensures.items c.add.ensures.room
    own rest (omega arith) is

pub invariant_of-self-in-Adds : goal.invariant_of-self-in-Adds
invariant_of-self-in-Adds c =
    let k = c.self.inside in
    let old = seen k.label k.script k.profile k.stack.filters k.start k.entries.items k.state in
    let is = next_seen old c.args.self.now (act.Adds c.in-Adds.entry) c.self.view_is c.in-Adds.ensures in
    let own : option_to_list c.take_copy-copy.result
    ≡ filter_in (slice_get k.script (length k.entries.items)) =
    own_here k.script c.steps.result.now c.len.result (length k.entries.items) _ c.take_copy-copy.ensures.copy
    c.steps.ensures.value (omega (arith, c.len.ensures)) in
    let rest = rest_here k.script c.steps.result.now c.len.result
    (length k.entries.items) _ c.take_copy-copy.ensures.rest c.steps.ensures.value
    (omega (arith, c.len.ensures)) in
    goes_held c.stacks_judge_every_call.ensures.one k.label k.script k.profile k.stack.filters _ k.start
    k.entries.items _ _ _ k.copies.items _ _ k.stack.room _ k.state c.in-Adds.entry
    (filter_in (slice_get k.script (length k.entries.items)))
    c.self.invariant c.in-Running.is (c.install.ensures.filters
    ∙ ap (λ (o : List (List Insn)). k.stack.filters ++ o) own) c.add-in-Adds.ensures.items
    c.add-in-Adds.ensures.room own rest c.install.ensures.room is

pub invariant_of-self-in-Stops : goal.invariant_of-self-in-Stops
invariant_of-self-in-Stops c =
    let k = c.self.inside in
    let old = seen k.label k.script k.profile k.stack.filters k.start k.entries.items k.state in
    let is = next_seen old c.args.self.now (act.Stops c.in-Stops.entry c.in-Stops.code) c.self.view_is
    c.in-Stops.ensures in
    stops_held c.stacks_judge_every_call.ensures.one k.label k.script k.profile k.stack.filters k.start
    k.entries.items _ _ _ k.copies.items k.copies.items k.stack.room k.state c.in-Stops.entry
    c.in-Stops.code
    c.self.invariant c.in-Running.is c.add-in-Stops.ensures.items c.add-in-Stops.ensures.room is

pub invariant_of-self-in-Over : goal.invariant_of-self-in-Over
invariant_of-self-in-Over c =
    let k = c.self.inside in
    let old = seen k.label k.script k.profile k.stack.filters k.start k.entries.items k.state in
    let is = next_seen old c.args.self.now (act.Over c.in-Over.code) c.self.view_is c.in-Over.ensures in
    over_held c.stacks_judge_every_call.ensures.one k.label k.script k.profile k.stack.filters k.start
    k.entries.items _ k.copies.items k.copies.items k.stack.room k.state c.in-Over.code c.self.invariant
    c.in-Running.is is

pub returns-in-Goes-clause-onward : goal.returns-in-Goes-clause-onward
returns-in-Goes-clause-onward c =
    let k = c.self.inside in
    let old = seen k.label k.script k.profile k.stack.filters k.start k.entries.items k.state in
    let is = next_seen old c.args.self.now (act.Goes c.in-Goes.entry) c.self.view_is c.in-Goes.ensures in
    λ on. rw (sym c.self.view_is) (onward k.script k.entries.items _ c.in-Goes.entry
    (goes_within old c.in-Goes.entry [] is) c.add.ensures.items)

pub returns-in-Adds-clause-onward : goal.returns-in-Adds-clause-onward
returns-in-Adds-clause-onward c =
    let k = c.self.inside in
    let old = seen k.label k.script k.profile k.stack.filters k.start k.entries.items k.state in
    let is = next_seen old c.args.self.now (act.Adds c.in-Adds.entry) c.self.view_is c.in-Adds.ensures in
    λ on. rw (sym c.self.view_is) (onward k.script k.entries.items _ c.in-Adds.entry
    (goes_within old c.in-Adds.entry _ is) c.add-in-Adds.ensures.items)
