-- What seats hand back of a closed table is what cores do of their banks, and so the table's journal is a run.
use Rattle.std.proofs.Common.{◌≡◌, ◌≢◌, ◌⊎◌, inl, inr, ℕ, zero, suc, ◌+◌, ◌-◌, ◌<◌, ◌≤◌, Bool, true, false, List, [], ◌∷◌, ◌++◌, map, find, length, replicate, Option, Some, None, is_some, filter_map, slice_get, refl, sym, ◌∙◌, ap, subst, eqb, eq-eqb, eqb-true, arith}
use Rattle.std.specs.Prelude.{◌==◌}
use Rattle.std.specs.List.{cons_option, range_with_len}
use Rattle.std.proofs.lemmas.List.{length-map, map-append}
use Rattle.std.proofs.lemmas.List.FromFn.{length-range_with_len}
use mathlib.Core.Option.{some}
use lib.ListN.{get_elem?}
use Rattle.pei_types.specs.declared.calls.EndKind.{EndKind}
use Rattle.pei_types.specs.declared.events.Event.{Event}
use Rattle.pei_types.specs.declared.identifiers.CoreId.{CoreId}
use Rattle.pei_types.specs.declared.machines.MachineSpec.{MachineSpec}
use Rattle.pei_types.specs.declared.stamps.Stamped.{Stamped}
use Rattle.pei_types.specs.Core.{events_of}
use Rattle.pei_types.specs.Ends.{end_in, end_of, ends_of}
use Rattle.pei_types.specs.Exclusion.{EntersAlone}
use Rattle.pei_types.specs.Fence.{FencesEarlier}
use Rattle.pei_types.specs.Legal.{EachEvent, Legal}
use Rattle.pei_types.specs.Program.{Listing, Contents}
use Rattle.pei_types.specs.Recency.{list_at}
use Rattle.history_laws.specs.Members.{In}
use Rattle.history_laws.proofs.Lists.{find_None, find_Some, in_map, map-map, map_in}
use Rattle.bank_laws.specs.Banks.{HasBanks}
use Rattle.bank_laws.specs.Laws.{LogsMakeLegal}
use Rattle.bank_laws.specs.Logs.{CoresHandBack, HandsBack, IsFront, merged}
use Rattle.shared_table.specs.declared.claims.Made.{Made}
use Rattle.shared_table.specs.ClosedTable.{IsAbsent, Merged, events_in, places_of}
use Rattle.shared_table.specs.Journal.{made_by}
use Rattle.shared_table.specs.Parts.{core_number, filled, mine, seen}
use Rattle.shared_table.specs.Place.{SeatView}
use Rattle.shared_table.specs.Receipts.{Account, seat_account}
use Rattle.thread_laws.proofs.Lanes.{at_of_in, in_of_at}
use Rattle.host_run.specs.ThreadInvariant.{own_end}
use Rattle.host_run.specs.Own.{own_events, own_log, seen_logs}
use Rattle.host_run.specs.Runs.{IsOver, IsReceiptOf, IsRunOf}
use Rattle.host_run.proofs.Looks.{in_range}
use Rattle.host_run.proofs.ClosingLogs.{are_own, get_at, merged_is, own_in, stamped, stamped_of, there_at}

-- ---- lists

-- two lists made of one list, by an item and by its number
along : {A B C : Type 0} (xs : List A) (f : A → C) (number : A → B) (g : B → C) → ((x : A) → In x xs → f x ≡ g (number x)) → map f xs ≡ map g (map number xs)
along [] f number g h = refl
along (x ∷ xs) f number g h = rw (h x (inl refl), along xs f number g (λ y i. h y (inr i))) refl

pub range_append : (a n k : ℕ) → range_with_len a (n + k) ≡ range_with_len a n ++ range_with_len (a + n) k
range_append a zero k =
    let none : 0 + k ≡ k = omega arith
    in let here : a + 0 ≡ a = omega arith
    in rw (none, here) refl
range_append a (suc n) k =
    let same : a + 1 + n ≡ a + suc n = omega arith
    in let more : suc n + k ≡ suc (n + k) = omega arith
    in rw more (ap (λ xs. a ∷ xs) (range_append (a + 1) n k ∙ ap (λ b. range_with_len (a + 1) n ++ range_with_len b k) same))

range_in : (a n i : ℕ) → a ≤ i → i < a + n → In i (range_with_len a n)
range_in a zero i low high = absurd (omega (arith, low, high))
range_in a (suc n) i low high = by (eqb i a) refl (λ more. range_in (a + 1) n i more (omega (arith, high)))
  where
    by : (b : Bool) → eqb i a ≡ b → (a + 1 ≤ i → In i (range_with_len (a + 1) n)) → In i (range_with_len a (suc n))
    by true e rest = inl (eqb-true i a e)
    by false e rest = inr (rest (let apart : i ≢ a = (λ q. absurd (cc (sym e ∙ eq-eqb i a q))) in omega (arith, low, apart)))

all_none : {A : Type 0} (f : ℕ → Option A) (a n : ℕ) → ((i : ℕ) → a ≤ i → f i ≡ None) → map f (range_with_len a n) ≡ replicate n None
all_none f a zero h = refl
all_none f a (suc n) h = rw (h a (omega arith), all_none f (a + 1) n (λ i low. h i (omega (arith, low)))) refl

-- the list of a number below so many
at_range : {A : Type 0} (f : ℕ → List A) (a n k : ℕ) → ((k < n) × (list_at (map f (range_with_len a n)) k ≡ f (a + k))) ⊎ (list_at (map f (range_with_len a n)) k ≡ [])
at_range f a zero k = inr refl
at_range f a (suc n) zero = inl (omega arith, ap f (omega arith))
at_range {A} f a (suc n) (suc k) = by (at_range f (a + 1) n k)
  where
    by : ((k < n) × (list_at (map f (range_with_len (a + 1) n)) k ≡ f (a + 1 + k))) ⊎ (list_at (map f (range_with_len (a + 1) n)) k ≡ []) → ((suc k < suc n) × (list_at (map f (range_with_len (a + 1) n)) k ≡ f (a + suc k))) ⊎ (list_at (map f (range_with_len (a + 1) n)) k ≡ [])
    by (inl e) = let less = e.0 in inl (omega (arith, less), e.1 ∙ ap f (omega arith))
    by (inr e) = inr e

map_same : {A : Type 0} (xs : List A) → map (λ x. x) xs ≡ xs
map_same [] = refl
map_same (x ∷ xs) = ap (λ ys. x ∷ ys) (map_same xs)

-- an event that ends a core, where one does
some_end : (xs : List Made) → is_some (slice_get (filter_map (λ e. end_in e.kind) (map (λ x. x.event) xs)) 0) ≡ true → (x : Made) × (kind : EndKind) × In x xs × (end_in x.event.kind ≡ Some kind)
some_end [] h = absurd (cc h)
some_end (x ∷ xs) h = by (end_in x.event.kind) refl h (some_end xs)
  where
    by : (o : Option EndKind) → end_in x.event.kind ≡ o → is_some (slice_get (cons_option o (filter_map (λ e. end_in e.kind) (map (λ y. y.event) xs))) 0) ≡ true
        → (is_some (slice_get (filter_map (λ e. end_in e.kind) (map (λ y. y.event) xs)) 0) ≡ true → (y : Made) × (kind : EndKind) × In y xs × (end_in y.event.kind ≡ Some kind))
        → (y : Made) × (kind : EndKind) × In y (x ∷ xs) × (end_in y.event.kind ≡ Some kind)
    by (Some kind) e k rest = (x, kind, inl refl, e)
    by None e k rest = let r = rest k in (r.0, r.1, inr r.2, r.3)

-- all pass, or one does not
all_or : {A : Type 0} (P Q : A → Type 0) (xs : List A) → ((x : A) → In x xs → P x ⊎ Q x) → ((x : A) → In x xs → P x) ⊎ ((x : A) × In x xs × Q x)
all_or P Q [] h = inl (λ x i. absurd i)
all_or {A} P Q (y ∷ xs) h = by (h y (inl refl)) (all_or P Q xs (λ x i. h x (inr i)))
  where
    each : P y → ((x : A) → In x xs → P x) → (x : A) → In x (y ∷ xs) → P x
    each here rest x (inl e) = subst P (sym e) here
    each here rest x (inr i) = rest x i

    by : P y ⊎ Q y → ((x : A) → In x xs → P x) ⊎ ((x : A) × In x xs × Q x) → ((x : A) → In x (y ∷ xs) → P x) ⊎ ((x : A) × In x (y ∷ xs) × Q x)
    by (inl here) (inl rest) = inl (each here rest)
    by (inl here) (inr r) = inr (r.0, inr r.1, r.2)
    by (inr here) rest = inr (y, inl refl, here)

-- ---- the seats of a closed table

-- the seat of a core, and what it has seen
abbrev pub is_of : CoreId → SeatView → Bool
is_of c s = core_number s == c.0

abbrev seen_by : MachineSpec → Option SeatView → List (List Stamped)
seen_by m None = []
seen_by m (Some s) = seen_logs m s

-- Seats of all cores of a machine, in order, back from a table that is closed, each of which has followed its program.
pub record AreBack (p : Listing) (m : MachineSpec) (image : Contents) (logs : List (List Stamped)) (seats : List SeatView) : Type 0 where
  pub banks : HasBanks m
  pub few : m.cores ≤ 8
  pub count : length logs ≡ m.banks
  pub merged : Merged m.directory m.events logs seats
  pub numbers : map core_number seats ≡ range_with_len 0 m.cores
  pub rows : (s : SeatView) → In s seats → HandsBack p m image (own_log s) (seen_logs m s)
  pub over : (s : SeatView) → In s seats → (is_some (own_end s) ≡ true) ⊎ (filled s ≡ true)

module _ (laws : LogsMakeLegal) (p : Listing) (m : MachineSpec) (image : Contents) (logs : List (List Stamped)) (seats : List SeatView) (back : AreBack p m image logs seats) where
  abbrev journal : List Event
  journal = events_in back.merged.journal

  abbrev own : CoreId → List Stamped
  own c = own_in back.merged.journal c

  own_is : (s : SeatView) → In s seats → own_log s ≡ own (record { 0 = core_number s })
  own_is s i =
      let at = at_of_in seats s i
      in ap (map stamped_of) (back.merged.mine_is at.0 s at.1)

  absent : (c : CoreId) → find (is_of c) seats ≡ None → IsAbsent c.0 seats
  absent c none i s e same = absurd (cc (sym (find_None (is_of c) seats s none (in_of_at seats s i e)) ∙ eq-eqb (core_number s) c.0 same))

  hand_back : CoresHandBack p m image logs own (λ c. seen_by m (find (is_of c) seats))
  hand_back = record { own = are_own m.directory m.events logs back.merged.journal back.merged.sound; fronts = λ c k. front c k (find (is_of c) seats) refl; rows = λ c. rows c (find (is_of c) seats) refl }
    where
      none_seen : (log : List Stamped) → IsFront [] log
      none_seen log = (log, refl)

      front : (c : CoreId) (k : ℕ) (o : Option SeatView) → find (is_of c) seats ≡ o → IsFront (list_at (seen_by m o) k) (list_at logs k)
      front c k None e = none_seen (list_at logs k)
      front c k (Some s) e = by (at_range (λ b. seen b s) 0 m.banks k)
        where
          at : (i : ℕ) × (get_elem? seats i ≡ some s)
          at = at_of_in seats s (find_Some (is_of c) seats s e).0

          by : ((k < m.banks) × (list_at (seen_logs m s) k ≡ seen (0 + k) s)) ⊎ (list_at (seen_logs m s) k ≡ []) → IsFront (list_at (seen_logs m s) k) (list_at logs k)
          by (inr f) = subst (λ xs. IsFront xs (list_at logs k)) (sym f) (none_seen (list_at logs k))
          by (inl f) =
              let r = there_at logs k (subst (λ n. k < n) (sym back.count) f.0)
              in let here : 0 + k ≡ k = omega arith
              in subst (λ xs. IsFront xs (list_at logs k)) (sym (f.1 ∙ ap (λ b. seen b s) here)) (subst (IsFront (seen k s)) (sym (get_at logs k r.0 [] r.1)) (back.merged.seen_is at.0 k s r.0 at.1 r.1))

      rows : (c : CoreId) (o : Option SeatView) → find (is_of c) seats ≡ o → HandsBack p m image (own c) (seen_by m o)
      rows c None e = subst (λ xs. HandsBack p m image xs []) (sym (ap (map stamped_of) (back.merged.others c.0 (absent c e)))) (laws.start p m image [])
      rows c (Some s) e =
          let found = find_Some (is_of c) seats s e
          in let same : core_number s ≡ c.0 = eqb-true (core_number s) c.0 found.1
          in subst (λ xs. HandsBack p m image xs (seen_logs m s)) (own_is s found.0 ∙ ap (λ n. own (record { 0 = n })) same) (back.rows s found.0)

  abbrev size : ℕ
  size = length back.merged.journal

  abbrev whole : List Event
  whole = merged size logs

  whole_is : whole ≡ journal
  whole_is = merged_is m.directory m.events logs back.merged.journal back.merged.sound

  -- The journal is legal.
  pub is_legal : Legal p m image whole
  is_legal =
      laws.legal p m image size logs own (λ c. seen_by m (find (is_of c) seats)) back.banks back.merged.sound.fits (stamped m.directory m.events logs back.merged.journal back.merged.sound) hand_back
      (subst (EachEvent (λ before e. EntersAlone m before e.actor e.kind)) (sym whole_is) (back.merged.sound.alone m refl))
      (subst (EachEvent (λ before e. FencesEarlier before e.actor e.kind)) (sym whole_is) back.merged.sound.fences)

  -- Each seat has its core's events of it.
  own_whole : (c : CoreId) → events_of c whole ≡ map (λ (x : Made). x.event) (made_by c.0 (places_of back.merged.journal))
  own_whole c =
      laws.own size logs c (own c) (stamped m.directory m.events logs back.merged.journal back.merged.sound) (are_own m.directory m.events logs back.merged.journal back.merged.sound c)
      ∙ map-map (λ (x : Stamped). x.event) stamped_of (made_by c.0 (places_of back.merged.journal))

  seat_has : (s : SeatView) → In s seats → own_events s ≡ events_of (record { 0 = core_number s }) whole
  seat_has s i =
      let at = at_of_in seats s i
      in ap (map (λ (x : Made). x.event)) (back.merged.mine_is at.0 s at.1) ∙ sym (own_whole (record { 0 = core_number s }))

  is_receipt : IsReceiptOf m whole (map seat_account seats)
  is_receipt = (
    map-map (λ (a : Account). a.core) seat_account seats ∙ back.numbers ∙ sym (map-map (λ (c : CoreId). c.0) (λ n. record { 0 = n }) (range_with_len 0 m.cores) ∙ map_same (range_with_len 0 m.cores)),
    map-map (λ (a : Account). map (λ (x : Made). x.event) a.events) seat_account seats
        ∙ along seats own_events core_number (λ n. events_of (record { 0 = n }) whole) seat_has
        ∙ ap (map (λ n. events_of (record { 0 = n }) whole)) back.numbers
        ∙ sym (map-map (λ (c : CoreId). events_of c whole) (λ n. record { 0 = n }) (range_with_len 0 m.cores)),
  )

  seat_count : length seats ≡ m.cores
  seat_count = sym (length-map seats core_number) ∙ ap length back.numbers ∙ length-range_with_len 0 m.cores

  in_machine : (s : SeatView) → In s seats → core_number s < m.cores
  in_machine s i = let r = in_range 0 m.cores (core_number s) (subst (In (core_number s)) back.numbers (map_in core_number seats s i)) in let high = r.1 in omega (arith, high)

  none_ends : (n : ℕ) → m.cores ≤ n → end_of whole (record { 0 = n }) ≡ None
  none_ends n beyond =
      let absent : IsAbsent n seats = λ i s e same. let less = in_machine s (in_of_at seats s i e) in absurd (omega (arith, less, same, beyond))
      in ap (λ es. slice_get (filter_map (λ (e : Event). end_in e.kind) es) 0) (own_whole (record { 0 = n }) ∙ ap (map (λ (x : Made). x.event)) (back.merged.others n absent))

  ends_are : map own_end seats ++ replicate (8 - length seats) None ≡ ends_of whole
  ends_are =
      let eight : 8 ≡ m.cores + (8 - m.cores) = (let few = back.few in omega (arith, few))
      in ap (λ n. map own_end seats ++ replicate (8 - n) None) seat_count
      ∙ ap (λ xs. xs ++ replicate (8 - m.cores) None) (along seats own_end core_number (λ n. end_of whole (record { 0 = n })) (λ s i. ap (λ es. slice_get (filter_map (λ (e : Event). end_in e.kind) es) 0) (seat_has s i)) ∙ ap (map (λ n. end_of whole (record { 0 = n }))) back.numbers)
      ∙ ap (λ xs. map (λ n. end_of whole (record { 0 = n })) (range_with_len 0 m.cores) ++ xs) (sym (all_none (λ n. end_of whole (record { 0 = n })) (0 + m.cores) (8 - m.cores) (λ i low. none_ends i (omega (arith, low)))))
      ∙ sym (map-append (λ n. end_of whole (record { 0 = n })) (range_with_len 0 m.cores) (range_with_len (0 + m.cores) (8 - m.cores)))
      ∙ ap (map (λ n. end_of whole (record { 0 = n }))) (sym (range_append 0 m.cores (8 - m.cores)))
      ∙ ap (λ n. map (λ c. end_of whole (record { 0 = c })) (range_with_len 0 n)) (sym eight)

  -- It is over.
  has_ended : ((s : SeatView) → In s seats → is_some (own_end s) ≡ true) → (c : CoreId) → c.0 < m.cores → (x : Stamped) × (kind : EndKind) × In x (own c) × (end_in x.event.kind ≡ Some kind)
  has_ended ended c less =
      let there = in_map core_number seats c.0 (subst (In c.0) (sym back.numbers) (range_in 0 m.cores c.0 (omega arith) (omega (arith, less))))
      in let r = some_end (mine there.0) (ended there.0 there.1)
      in (stamped_of r.0, r.1, subst (In (stamped_of r.0)) (own_is there.0 there.1 ∙ ap (λ n. own (record { 0 = n })) (sym there.2)) (map_in stamped_of (mine there.0) r.0 r.2), r.3)

  is_over : IsOver m whole
  is_over = by (all_or (λ s. is_some (own_end s) ≡ true) (λ s. filled s ≡ true) seats back.over)
    where
      by : ((s : SeatView) → In s seats → is_some (own_end s) ≡ true) ⊎ ((s : SeatView) × In s seats × (filled s ≡ true)) → IsOver m whole
      by (inl ended) = inl (laws.complete m size logs own (stamped m.directory m.events logs back.merged.journal back.merged.sound) (are_own m.directory m.events logs back.merged.journal back.merged.sound) (has_ended ended))
      by (inr r) =
          let at = at_of_in seats r.0 r.1
          in inr (laws.size size logs (stamped m.directory m.events logs back.merged.journal back.merged.sound) ∙ back.merged.full at.0 r.0 at.1 r.2)

  -- So it is a run.
  pub is_run : (ends : List (Option EndKind)) → ends ≡ map own_end seats ++ replicate (8 - length seats) None → IsRunOf p m image whole ends (map seat_account seats)
  is_run ends told = record { legal = is_legal; ends_are = told ∙ ends_are; over = is_over; receipt = is_receipt }
