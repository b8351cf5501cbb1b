-- The steps of a turn on the table, in the words of what a thread keeps.
use Rattle.std.proofs.Common.{◌≡◌, ◌≢◌, ◌⊎◌, inl, inr, ℕ, zero, suc, ◌+◌, ◌-◌, ◌<◌, ◌≤◌, Bool, true, false, ◌||◌, nat_lt, nat_le, if◌then◌else◌, List, [], ◌∷◌, ◌++◌, length, Option, Some, None, slice_set, refl, sym, ◌∙◌, ap, subst, arith}
use Rattle.std.proofs.lemmas.Bool.{leb-true, lt-ltb, ltb-false, ltb-true}
use Rattle.std.specs.Prelude.{IfNone, IfSome}
use Rattle.std.proofs.lemmas.List.{length-append}
use mathlib.Core.Option.{some}
use lib.ListN.{get_elem?}
use Rattle.atomic_table.specs.Seated.{TableId}
use Rattle.pei_types.specs.declared.calls.EndKind.{EndKind}
use Rattle.pei_types.specs.declared.machines.MachineSpec.{MachineSpec}
use Rattle.pei_types.specs.declared.stamps.Stamped.{Stamped}
use Rattle.pei_types.specs.Core.{at_stop, core_config}
use Rattle.pei_types.specs.Legal.{EachEvent}
use Rattle.pei_types.specs.Program.{Listing, Contents}
use Rattle.bank_laws.specs.Kept.{BankInOrder, FitsInBank}
use Rattle.bank_laws.specs.Logs.{Rises}
use Rattle.bank_laws.specs.Rows.{IsRowOfBank}
use Rattle.coherence_laws.specs.Holdings.{Holdings}
use Rattle.core_exec.specs.CoreView.{Standing}
use Rattle.fabric.specs.Banks.{BankHistory, events_of}
use Rattle.shared_table.specs.declared.claims.Active.{Active}
use Rattle.shared_table.specs.Actives.{active_in}
use Rattle.shared_table.specs.Claims.{earlier_left, side_drawing, side_missing}
use Rattle.shared_table.specs.Diaries.{active_of}
use Rattle.shared_table.specs.Journal.{events}
use Rattle.shared_table.specs.Parts.{FitsSeat, active, claims, cleared, core_number, fence, filled, misses, number_drawn, seen, slot_given, slot_taken, stamps_found, turn, drawn}
use Rattle.shared_table.specs.Place.{SeatView}
use Rattle.shared_table.specs.Rule.{IsClear}
use Rattle.shared_table.specs.Timed.{IsAbove}
use Rattle.thread_laws.specs.BankLogs.{IsBankLog}
use Rattle.host_run.specs.declared.cores.CoreRun.{CoreRun}
use Rattle.host_run.specs.declared.own_peis.OwnPeis.{OwnPeis}
use Rattle.host_run.specs.ThreadInvariant.{HasSlot, IsAtRest, IsFull, IsInTurn, KeepsUp}
use Rattle.host_run.specs.Laws.{TurnLaws}
use Rattle.host_run.specs.Own.{KeepsPeis, core_of, own_events}
use Rattle.host_run.proofs.Seats.{keeps_on}
use Rattle.host_run.proofs.SeatSteps.{drawn_claims, drawn_more, found_more, given_clears, given_more, taken_more, taken_slot}

-- ---- what a bank tells of its log

pub bank_log : (m : MachineSpec) (image : Contents) (k : ℕ) (h : BankHistory) → h.machine ≡ m → h.image ≡ image → h.bank ≡ k → EachEvent (IsRowOfBank h.machine h.image h.bank) (events_of h) → EachEvent (λ before e. FitsInBank h.machine before e.actor e.kind) (events_of h) → IsBankLog m image k (events h.log)
bank_log m image k h same start number rows fitting = record {
  rows = subst (λ x. EachEvent (IsRowOfBank x image k) (events_of h)) same (subst (λ x. EachEvent (IsRowOfBank h.machine x k) (events_of h)) start (subst (λ x. EachEvent (IsRowOfBank h.machine h.image x) (events_of h)) number rows));
  fitting = subst (λ (x : MachineSpec). EachEvent (λ before e. FitsInBank x before e.actor e.kind) (events_of h)) same fitting;
}

pub bank_order : (m : MachineSpec) (image : Contents) (h : BankHistory) → h.machine ≡ m → h.image ≡ image → (held : Holdings) → BankInOrder h.machine h.image (events_of h) held → BankInOrder m image (events h.log) held
bank_order m image h same start held order = subst (λ x. BankInOrder x image (events_of h) held) same (subst (λ x. BankInOrder h.machine x (events_of h) held) start order)

pub keeps_same : (p : Listing) (m : MachineSpec) (image : Contents) (s : SeatView) {core other : Standing} {o n : OwnPeis} {end how : Option EndKind} → core ≡ other → o ≡ n → end ≡ how → KeepsUp p m image s core o end → KeepsUp p m image s other n how
keeps_same p m image s {core} {other} {o} {n} {end} {how} a b c k = subst (λ x. KeepsUp p m image s other n x) c (subst (λ x. KeepsUp p m image s other x end) b (subst (λ x. KeepsUp p m image s x o end) a k))

module _ (laws : TurnLaws) (p : Listing) (m : MachineSpec) (image : Contents) (t : TableId) (s u : SeatView) where
  -- ---- a look at the stamp word

  found_keeps : (room n : ℕ) → u ≡ stamps_found room s n → (core : Standing) (o : OwnPeis) (end : Option EndKind) → KeepsUp p m image s core o end → KeepsUp p m image u core o end
  found_keeps room n is core o end k = subst (λ v. KeepsUp p m image v core o end) (sym is) (keeps_on laws p m image s (stamps_found room s n) (found_more room n s k.followed.seen_rise) core o end refl k)

  pub found_goes : (room n : ℕ) → u ≡ stamps_found room s n → (run : CoreRun) → IsInTurn p m image t s run → IsInTurn p m image t u run
  found_goes room n is run h = record {
    rest = subst (IsAtRest t) (sym is) (record { table = h.rest.table; slot = h.rest.slot; stamp = h.rest.stamp });
    missed = subst (λ (v : SeatView). misses v ≡ 0) (sym is) h.missed;
    keeps = found_keeps room n is run.core run.own run.end h.keeps;
  }

  or_true : (b c : Bool) → c ≡ true → (b || c) ≡ true
  or_true true c h = refl
  or_true false c h = h

  pub found_full : (room n : ℕ) → u ≡ stamps_found room s n → nat_le room n ≡ true → (run : CoreRun) → IsInTurn p m image t s run → IsFull p m image t u run
  found_full room n is none run h = record {
    rest = subst (IsAtRest t) (sym is) (record { table = h.rest.table; slot = h.rest.slot; stamp = h.rest.stamp });
    found = subst (λ (v : SeatView). filled v ≡ true) (sym is) (or_true (filled s) (nat_le room n) none);
    keeps = found_keeps room n is run.core run.own run.end h.keeps;
  }

  -- ---- a slot that is taken

  module _ (b : ℕ) (log : List Stamped) (entered : List Active) (is : u ≡ slot_taken s b log entered) (fits : FitsSeat b log entered s) (rise : Rises log) where
    pub taken_keeps : (core : Standing) (o : OwnPeis) (end : Option EndKind) → KeepsUp p m image s core o end → KeepsUp p m image u core o end
    taken_keeps core o end k =
        subst (λ v. KeepsUp p m image v core o end) (sym is)
        (keeps_on laws p m image s (slot_taken s b log entered) (taken_more laws m s b log entered fits.1 rise k.followed.seen_rise) core o end refl k)

    pub taken_has : IsAtRest t s → b < m.banks → entered ≡ active_in m.directory (events log) → IsClear (core_number s) (claims s) entered → IsBankLog m image b (events log) → (h : Holdings) → BankInOrder m image (events log) h → HasSlot m image t b log None u
    taken_has rest below whole clear bank h order = subst (HasSlot m image t b log None) (sym is) (taken_slot laws m s b log entered image t rest.table below rest.stamp whole fits clear bank h order)

  -- ---- a stamp that is drawn

  module _ (room n b : ℕ) (is : u ≡ number_drawn room s n) where
    pub drawn_keeps : (core : Standing) (o : OwnPeis) (end : Option EndKind) → KeepsUp p m image s core o end → KeepsUp p m image u core o end
    drawn_keeps core o end k = subst (λ v. KeepsUp p m image v core o end) (sym is) (keeps_on laws p m image s (number_drawn room s n) (drawn_more room n s k.followed.seen_rise) core o end (drawn_claims room n s) k)

    drawn_is : (x : Bool) → nat_lt n room ≡ x → u ≡ record s { knows = if x then record s.knows { side = side_drawing s.knows.side n } else record s.knows { side = side_missing s.knows.side } }
    drawn_is x e = is ∙ ap (λ (y : Bool). record s { knows = if y then record s.knows { side = side_drawing s.knows.side n } else record s.knows { side = side_missing s.knows.side } }) e

    pub drawn_some : n < room → (log : List Stamped) → HasSlot m image t b log None s → HasSlot m image t b log (Some n) u
    drawn_some less log h =
        subst (HasSlot m image t b log (Some n)) (sym (drawn_is true (lt-ltb n room less)))
        (record { table = h.table; below = h.below; slot = h.slot; stamp_is = refl; seen_is = h.seen_is; lent_is = h.lent_is; own = h.own; active_is = h.active_is; clear = h.clear; bank = h.bank; order = h.order })

    pub drawn_above : n < room → IsAbove n s.knows.side → IsAbove n u.knows.side
    drawn_above less h = subst (λ (v : SeatView). IsAbove n v.knows.side) (sym (drawn_is true (lt-ltb n room less))) h

    pub drawn_missed : n < room → misses s ≡ 0 → misses u ≡ 0
    drawn_missed less h = subst (λ (v : SeatView). misses v ≡ 0) (sym (drawn_is true (lt-ltb n room less))) h

    less_not : room ≤ n → nat_lt n room ≡ false
    less_not h = by (nat_lt n room) refl
      where
        by : (x : Bool) → nat_lt n room ≡ x → nat_lt n room ≡ false
        by false e = e
        by true e = absurd (let less = ltb-true n room e in omega (arith, h, less))

    pub drawn_none : room ≤ n → (log : List Stamped) → HasSlot m image t b log None s → HasSlot m image t b log None u × (filled u ≡ true)
    drawn_none most log h = (
      subst (HasSlot m image t b log None) (sym (drawn_is false (less_not most)))
          (record { table = h.table; below = h.below; slot = h.slot; stamp_is = h.stamp_is; seen_is = h.seen_is; lent_is = h.lent_is; own = h.own; active_is = h.active_is; clear = h.clear; bank = h.bank; order = h.order }),
      subst (λ (v : SeatView). filled v ≡ true) (sym (drawn_is false (less_not most))) refl,
    )

    drawn_parts : (x : Bool) → u ≡ record s { knows = if x then record s.knows { side = side_drawing s.knows.side n } else record s.knows { side = side_missing s.knows.side } } → (core_of u ≡ core_of s) × (own_events u ≡ own_events s) × (seen b u ≡ seen b s)
    drawn_parts true e = (ap (λ (v : SeatView). core_of v) e, ap (λ (v : SeatView). own_events v) e, ap (λ (v : SeatView). seen b v) e)
    drawn_parts false e = (ap (λ (v : SeatView). core_of v) e, ap (λ (v : SeatView). own_events v) e, ap (λ (v : SeatView). seen b v) e)

    pub drawn_seat : (core_of u ≡ core_of s) × (own_events u ≡ own_events s) × (seen b u ≡ seen b s)
    drawn_seat = drawn_parts (nat_lt n room) is

  -- ---- a slot that is given back without an event

  module _ (b : ℕ) (entered : List Active) (is : u ≡ slot_given s b (seen b s) entered) (own : active_of (core_number s) entered ≡ active b s) where
    pub given_keeps : (core : Standing) (o : OwnPeis) (end : Option EndKind) → KeepsUp p m image s core o end → KeepsUp p m image u core o end
    given_keeps core o end k = subst (λ v. KeepsUp p m image v core o end) (sym is) (keeps_on laws p m image s (slot_given s b (seen b s) entered) (given_more laws s b entered own k.followed.seen_rise) core o end refl k)

    pub given_rest : s.table ≡ t → IsAtRest t u
    given_rest table = subst (IsAtRest t) (sym is) (record { table = table; slot = refl; stamp = refl })

    pub given_counts : (misses u ≡ misses s) × (filled u ≡ filled s)
    given_counts = (ap misses is, ap filled is)

    -- and the bank is one more that is cleared
    pub given_clear : (core : Standing) (o : OwnPeis) (end : Option EndKind) → b < m.banks → KeepsUp p m image s core o end → (f : ℕ) → o.fence ≡ Some f → o.cleared ≡ b → earlier_left f (seen b s) ≡ true → KeepsUp p m image u core (record o { cleared = b + 1 }) end
    given_clear core o end below k f on at left = record {
      followed = now.followed;
      taken_in = now.taken_in;
      ended = now.ended;
      peis = record {
        kept = record { events = now.peis.kept.events; lanes = now.peis.kept.lanes; issues = now.peis.kept.issues; fence = now.peis.kept.fence };
        four = now.peis.four;
        fence_is = now.peis.fence_is;
        unfenced = λ off. absurd (cc (sym on ∙ off));
        few = omega (arith, below);
        cleared_are = λ j less. by j less (nat_lt j b) refl;
      };
      actives = now.actives;
      lanes = now.lanes;
    }
      where
        now : KeepsUp p m image u core o end
        now = given_keeps core o end k

        by : (j : ℕ) → j < b + 1 → (x : Bool) → nat_lt j b ≡ x → (i : ℕ) × (get_elem? (cleared u) i ≡ some j)
        by j less true e = now.peis.cleared_are j (let small = ltb-true j b e in omega (arith, small, at))
        by j less false e =
            let most = ltb-false j b e
            in let same : b ≡ j = omega (arith, most, less)
            in subst (λ n. (i : ℕ) × (get_elem? (cleared u) i ≡ some n)) same
            (subst (λ (v : SeatView). (i : ℕ) × (get_elem? (cleared v) i ≡ some b)) (sym is) (given_clears laws s b entered f (sym k.peis.fence_is ∙ on) left))

  -- ---- answers

  -- what a draw answers, where there is room for so many events
  module _ (room b : ℕ) (r : Option ℕ) (some : IfSome r (λ n. (n < room) × (u ≡ number_drawn room s n) × IsAbove n s.knows.side)) (none : IfNone r ((n : ℕ) × (room ≤ n) × (u ≡ number_drawn room s n))) (fits : room ≡ m.events) (log : List Stamped) (h : HasSlot m image t b log None s) (miss : misses s ≡ 0) where
    pub answer_some : IfSome r (λ n. (n < m.events) × IsAbove n u.knows.side × HasSlot m image t b log (Some n) u × (misses u ≡ 0))
    answer_some = by r some
      where
        by : (o : Option ℕ) → IfSome o (λ n. (n < room) × (u ≡ number_drawn room s n) × IsAbove n s.knows.side) → IfSome o (λ n. (n < m.events) × IsAbove n u.knows.side × HasSlot m image t b log (Some n) u × (misses u ≡ 0))
        by None g = g
        by (Some n) g = (subst (λ e. n < e) fits g.0, drawn_above room n b g.1 g.0 g.2, drawn_some room n b g.1 g.0 log h, drawn_missed room n b g.1 g.0 miss)

    pub answer_none : IfNone r (HasSlot m image t b log None u × (filled u ≡ true))
    answer_none = by r none
      where
        by : (o : Option ℕ) → IfNone o ((n : ℕ) × (room ≤ n) × (u ≡ number_drawn room s n)) → IfNone o (HasSlot m image t b log None u × (filled u ≡ true))
        by None g = drawn_none room g.0 b g.2 g.1 log h
        by (Some n) g = g

    pub answer_keeps : (core : Standing) (o : OwnPeis) (end : Option EndKind) → KeepsUp p m image s core o end → KeepsUp p m image u core o end
    answer_keeps core o end k = by r some none
      where
        by : (x : Option ℕ) → IfSome x (λ n. (n < room) × (u ≡ number_drawn room s n) × IsAbove n s.knows.side) → IfNone x ((n : ℕ) × (room ≤ n) × (u ≡ number_drawn room s n)) → KeepsUp p m image u core o end
        by None f g = drawn_keeps room g.0 b g.2 core o end k
        by (Some n) f g = drawn_keeps room n b f.1 core o end k

    pub answer_claims : claims u ≡ claims s
    answer_claims = by r some none
      where
        by : (x : Option ℕ) → IfSome x (λ n. (n < room) × (u ≡ number_drawn room s n) × IsAbove n s.knows.side) → IfNone x ((n : ℕ) × (room ≤ n) × (u ≡ number_drawn room s n)) → claims u ≡ claims s
        by None f g = ap claims g.2 ∙ drawn_claims room g.0 s
        by (Some n) f g = ap claims f.1 ∙ drawn_claims room n s

    pub answer_seat : (core_of u ≡ core_of s) × (own_events u ≡ own_events s) × (seen b u ≡ seen b s)
    answer_seat = by r some none
      where
        by : (x : Option ℕ) → IfSome x (λ n. (n < room) × (u ≡ number_drawn room s n) × IsAbove n s.knows.side) → IfNone x ((n : ℕ) × (room ≤ n) × (u ≡ number_drawn room s n)) → (core_of u ≡ core_of s) × (own_events u ≡ own_events s) × (seen b u ≡ seen b s)
        by None f g = drawn_seat room g.0 b g.2
        by (Some n) f g = drawn_seat room n b f.1

  -- the thread of a fence that has found one more bank cleared
  pub cleared_turn : (run after : CoreRun) (b : ℕ) → IsAtRest t u → misses u ≡ 0 → KeepsUp p m image u run.core (record run.own { cleared = b + 1 }) run.end → run.own.cleared ≡ b → after.core ≡ run.core → after.own ≡ record run.own { cleared = run.own.cleared + 1 } → after.end ≡ run.end → IsInTurn p m image t u after
  cleared_turn run after b rest miss keeps at core own end = record {
    rest = rest;
    missed = miss;
    keeps = keeps_same p m image u (sym core) (ap (λ n. record run.own { cleared = n + 1 }) (sym at) ∙ sym own) (sym end) keeps;
  }

-- the thread of a core that has run up to its next call
pub stopped_turn : TurnLaws → (p : Listing) (m : MachineSpec) (image : Contents) (t : TableId) (s : SeatView) (run after : CoreRun) → after.core.state ≡ at_stop p (core_config m) run.core.state → after.own ≡ run.own → after.end ≡ run.end → IsInTurn p m image t s run → IsInTurn p m image t s after
stopped_turn laws p m image t s run after stop own end h = record {
  rest = h.rest;
  missed = h.missed;
  keeps = keeps_same p m image s refl (sym own) (sym end) (record {
    followed = h.keeps.followed;
    taken_in = ap (at_stop p (core_config m)) stop ∙ laws.stops.again p (core_config m) run.core.state ∙ h.keeps.taken_in;
    ended = h.keeps.ended;
    peis = h.keeps.peis;
    actives = h.keeps.actives;
    lanes = h.keeps.lanes;
  });
}

-- a log does not go on by an event where it stays
pub no_more : (xs : List Stamped) (x : Stamped) → xs ≡ xs ++ x ∷ [] → ⊥
no_more xs x e =
    let sizes : length xs ≡ length (xs ++ x ∷ []) = ap length e
    in let more = length-append xs (x ∷ [])
    in omega (arith, sizes, more)
