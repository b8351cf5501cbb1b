-- The issue stamps that a bank keeps, one for each lane.
use Rattle.std.specs.Prelude.{◌≡◌, ℕ, List, [], ◌∷◌, nat_lt, slice_index, slice_set}
use Rattle.std.specs.List.{AllByRecursion}
use Rattle.pei_types.specs.declared.identifiers.CoreId.{CoreId}
use Rattle.pei_types.specs.declared.identifiers.Lane.{Lane}
use Rattle.pei_types.specs.declared.identifiers.PeiId.{PeiId}
use Rattle.pei_types.specs.declared.inflight_looks.PeiLook.{PeiLook}
use Rattle.pei_types.specs.declared.events.Event.{Event}
use Rattle.pei_types.specs.declared.events.EventKind.{EventKind}
use Rattle.pei_types.specs.declared.events.EventKind.TheVariants as event
use Rattle.pei_types.specs.declared.stamps.Stamped.{Stamped}
use Rattle.inflight.specs.OnTheWay.{number_place}
use Rattle.fabric.specs.Banks.{is_issued_below}

-- the stamps after one more event of a core: an issue sets its lane's
abbrev pub with_issue : List ℕ → CoreId → EventKind → ℕ → List ℕ
with_issue numbers c (event.Issue seq lane o b operands) stamp = slice_set numbers (number_place c lane) stamp
with_issue numbers c _ stamp = numbers

-- the issue of the PEI in a lane has, in a log, the stamp of its lane
abbrev pub HasStamp : List Stamped → List ℕ → PeiId → Lane → Type 0
HasStamp log numbers id lane = (bound : ℕ) → is_issued_below log bound id ≡ nat_lt (slice_index numbers (number_place id.core lane)) bound

abbrev pub HaveStamps : List Stamped → List ℕ → List PeiLook → Type 0
HaveStamps log numbers ps = AllByRecursion (λ p. HasStamp log numbers p.id p.lane) ps

-- events with their stamps
abbrev pub log_with : List Event → List ℕ → List Stamped
log_with [] stamps = []
log_with (e ∷ es) [] = []
log_with (e ∷ es) (n ∷ ns) = record { stamp = n; event = e } ∷ log_with es ns
