use Rattle.std.specs.Prelude.{◌≡◌, ◌≤◌, ℕ}
use Rattle.bank_laws.specs.Logs.{AreStamped, merged}
use Rattle.fabric.specs.Kept.{Keeps}
use Rattle.fabric.specs.Merge.{logs_of}
use Rattle.fabric.proofs.merging.replay_all.Given as goal

-- the events with smaller stamps were made
abbrev pub invariant-loop-stamp : goal.invariant-loop-stamp
invariant-loop-stamp l = record {
  machine : l.parts.machine ≡ l.initial.parts.machine;
  keeps : Keeps l.parts l.journal l.image.value;
  events : l.journal.events ≡ merged l.stamp (logs_of l.banks);
  below : (n : ℕ) → AreStamped n (logs_of l.banks) → l.stamp ≤ n;
}
