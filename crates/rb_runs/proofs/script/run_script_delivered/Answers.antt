-- Whichever timer was chosen, the device that is there was left as it was by the script over that timer.
use Rattle.rb_runs.proofs.script.run_script_delivered.Goals as goal
use Rattle.rb_runs.proofs.script.run_script_delivered.Goals.{in-List, in-Heap, in-Pairing, in-Wheel}

pub returns-after-options-clause-ran : goal.returns-after-options-clause-ran
returns-after-options-clause-ran g c = rw c.in-Some.is (elim c.match-options.branch [
  | in-List w ↦ rw (w.reader-is, w.to-is, w.result-is) w.script_over.ensures.ran
  | in-Heap w ↦ rw (w.reader-is, w.to-is, w.result-is) w.script_over-in-Heap.ensures.ran
  | in-Pairing w ↦ rw (w.reader-is, w.to-is, w.result-is) w.script_over-in-Pairing.ensures.ran
  | in-Wheel w ↦ rw (w.reader-is, w.to-is, w.result-is) w.script_over-in-Wheel.ensures.ran
])

pub returns-after-options-clause-reason : goal.returns-after-options-clause-reason
returns-after-options-clause-reason g c = elim c.match-options.branch [
  | in-List w ↦ rw (w.reader-is, w.result-is) w.script_over.ensures.reason
  | in-Heap w ↦ rw (w.reader-is, w.result-is) w.script_over-in-Heap.ensures.reason
  | in-Pairing w ↦ rw (w.reader-is, w.result-is) w.script_over-in-Pairing.ensures.reason
  | in-Wheel w ↦ rw (w.reader-is, w.result-is) w.script_over-in-Wheel.ensures.reason
]

pub returns-after-options-clause-write_reason : goal.returns-after-options-clause-write_reason
returns-after-options-clause-write_reason g c = elim c.match-options.branch [
  | in-List w ↦ rw w.result-is w.script_over.ensures.write_reason
  | in-Heap w ↦ rw w.result-is w.script_over-in-Heap.ensures.write_reason
  | in-Pairing w ↦ rw w.result-is w.script_over-in-Pairing.ensures.write_reason
  | in-Wheel w ↦ rw w.result-is w.script_over-in-Wheel.ensures.write_reason
]

pub returns-after-options-clause-on : goal.returns-after-options-clause-on
returns-after-options-clause-on g c = elim c.match-options.branch [
  | in-List w ↦ rw w.result-is w.script_over.ensures.on
  | in-Heap w ↦ rw w.result-is w.script_over-in-Heap.ensures.on
  | in-Pairing w ↦ rw w.result-is w.script_over-in-Pairing.ensures.on
  | in-Wheel w ↦ rw w.result-is w.script_over-in-Wheel.ensures.on
]

pub returns-after-options-clause-counted : goal.returns-after-options-clause-counted
returns-after-options-clause-counted g c = elim c.match-options.branch [
  | in-List w ↦ rw w.reader-is w.script_over.ensures.counted
  | in-Heap w ↦ rw w.reader-is w.script_over-in-Heap.ensures.counted
  | in-Pairing w ↦ rw w.reader-is w.script_over-in-Pairing.ensures.counted
  | in-Wheel w ↦ rw w.reader-is w.script_over-in-Wheel.ensures.counted
]

pub returns-after-options-clause-same_reference : goal.returns-after-options-clause-same_reference
returns-after-options-clause-same_reference g c = elim c.match-options.branch [
  | in-List w ↦ rw w.reader-is w.script_over.ensures.same_reference
  | in-Heap w ↦ rw w.reader-is w.script_over-in-Heap.ensures.same_reference
  | in-Pairing w ↦ rw w.reader-is w.script_over-in-Pairing.ensures.same_reference
  | in-Wheel w ↦ rw w.reader-is w.script_over-in-Wheel.ensures.same_reference
]
