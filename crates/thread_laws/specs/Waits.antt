-- What a fence waits for in one bank.
use Rattle.std.specs.Prelude.{◌≡◌, ℕ, ◌≤◌, true, List, Some}
use Rattle.pei_types.specs.declared.stamps.Stamped.{Stamped}
use Rattle.pei_types.specs.declared.inflight_looks.PeiLook.{PeiLook}
use Rattle.pei_types.specs.History.{pei_issued_by}
use Rattle.pei_types.specs.Operation.{is_writer}
use Rattle.history_laws.specs.Members.{In}
use Rattle.history_laws.specs.TrackedPeis.{as_issued}

-- no writer among these PEIs was issued in the log with a stamp below that of the fence's begin
abbrev pub WaitsForNone : ℕ → List Stamped → List PeiLook → Type 0
WaitsForNone begin log ls = (l : PeiLook) (x : Stamped) → In l ls → is_writer l.op ≡ true → In x log → pei_issued_by x.event.actor x.event.kind ≡ Some (as_issued l) → begin ≤ x.stamp
