-- The directory's entries count the lanes that hold them, after each step.
use Rattle.std.proofs.Common.{◌≡◌, ◌⊎◌, inl, inr, ℕ, ◌+◌, ◌-◌, ◌<◌, ◌≤◌, Bool, true, false, not, ◌&&◌, if◌then◌else◌, List, [], ◌∷◌, ◌++◌, map, length, find, Some, None, option_map, get_or, eqb, eqb-true, eq-eqb, nat_lt, nat_le, ltb-true, leb-true, IsTrue, refl, sym, ◌∙◌, ap, ap₂, subst, arith}
use Rattle.std.proofs.lemmas.List.Folds.{find-append}
use Rattle.pei_types.specs.declared.identifiers.Actor.{Actor}
use Rattle.pei_types.specs.declared.identifiers.CoreId.{CoreId}
use Rattle.pei_types.specs.declared.identifiers.Lane.{Lane}
use Rattle.pei_types.specs.declared.identifiers.PeiId.{PeiId}
use Rattle.pei_types.specs.declared.inflight_looks.PeiLook.{PeiLook}
use Rattle.pei_types.specs.declared.inflight_looks.Phase.{Phase}
use Rattle.pei_types.specs.declared.inflight_looks.Phase.TheVariants as phase
use Rattle.pei_types.specs.declared.events.EventKind.TheVariants as event
use Rattle.pei_types.specs.declared.machines.MachineSpec.{MachineSpec}
use Rattle.pei_types.specs.declared.operations.Mode.{Mode}
use Rattle.pei_types.specs.declared.operations.Mode.TheVariants as mode
use Rattle.pei_types.specs.Blocks.{entry_of, same_core, same_lane, same_pei}
use Rattle.pei_types.specs.Calls.{is_actor_of}
use Rattle.pei_types.specs.Claims.{Claims, no_claims, with_announcement, is_granted, with_claim, without_claim}
use Rattle.pei_types.specs.MachineState.{State, look_in, is_phase, with_phase, pei_id}
use Rattle.pei_types.specs.Operation.{mode_of}
use Rattle.pei_types.specs.Recency.{change_at, list_at, without}
use Rattle.pei_types.specs.Schedule.{LaneClaim, Free, Held, Spent, Announced, after_leave}
use Rattle.history_laws.specs.Members.{In}
use Rattle.history_laws.specs.TrackedPeis.{is_past_issue}
use Rattle.history_laws.specs.EntryOrder.{LanesApart}
use Rattle.history_laws.specs.Holders.{claim_at, holds_entry, same_mode, one, count_all, counted, waits_on, Holding}
use Rattle.history_laws.proofs.Lists.{get_or-change_at_same, get_or-change_at_other, find_filter, find_Some, find_None, find-map, find_agree, each_in, in_map, in_filter, in_push}
use Rattle.history_laws.proofs.Agree.{moved}
use Rattle.history_laws.proofs.Counting.{changed, claim_here, claim_other, length-changed, count_change, count_few, count_some}
use Rattle.std.proofs.lemmas.Bool.{not-true, and_parts}
use Rattle.std.proofs.lemmas.Option.{same_Some}
use Rattle.pei_types.proofs.Groups.{entry_below}
use Rattle.pei_types.proofs.Lists.{length-change_at}
use Rattle.pei_types.proofs.Identities.{same_pei_refl, same_pei_is}
use Rattle.pei_types.proofs.Tests.{eqb_sym}

-- ---- places

pub place_cases : (c l d n : ℕ) → ((c ≡ d) × (l ≡ n)) ⊎ ((c ≡ d) × (l ≡ n) → ⊥)
place_cases c l d n = by (eqb c d) (eqb l n) refl refl
  where
    by : (b b' : Bool) → eqb c d ≡ b → eqb l n ≡ b' → ((c ≡ d) × (l ≡ n)) ⊎ ((c ≡ d) × (l ≡ n) → ⊥)
    by true true e f = inl (eqb-true c d e, eqb-true l n f)
    by false b' e f = inr (λ q. absurd (cc (sym e ∙ eq-eqb c d q.0)))
    by true false e f = inr (λ q. absurd (cc (sym f ∙ eq-eqb l n q.1)))

make_core : ℕ → CoreId
make_core c = record { 0 = c }

make_lane : ℕ → Lane
make_lane l = record { 0 = l }

core_is : (a b : CoreId) → a.0 ≡ b.0 → a ≡ b
unfolding make_core
core_is a b h = ap make_core h

lane_is : (a b : Lane) → a.0 ≡ b.0 → a ≡ b
unfolding make_lane
lane_is a b h = ap make_lane h

-- the actor's place is there
record Within (m : MachineSpec) (a : Actor) (claims : List (List LaneClaim)) : Type 0 where
  core : a.core.0 < length claims
  lane : a.lane.0 < length (list_at claims a.core.0)

within : (m : MachineSpec) (s : State) (entries : List Claims) (claims : List (List LaneClaim)) (a : Actor) → IsTrue (is_actor_of m a) → Holding m s entries claims → Within m a claims
within m s entries claims a actor h =
    let both = and_parts (nat_lt a.core.0 m.cores) (nat_le a.lane.0 m.buffer) actor
    in let c : a.core.0 < m.cores = ltb-true a.core.0 m.cores both.0
    in record { core = subst (λ n. a.core.0 < n) (sym h.cores) c; lane = subst (λ n. a.lane.0 < n) (sym (h.lanes a.core.0 c)) (above (leb-true a.lane.0 m.buffer both.1)) }
  where
    above : a.lane.0 ≤ m.buffer → a.lane.0 < m.buffer + 1
    above k = omega (arith, k)

-- ---- a claim changes, with its entry

-- what the change of a claim from x to y needs, at the actor's place
pub record Changes (m : MachineSpec) (s : State) (entries entries' : List Claims) (claims : List (List LaneClaim)) (a : Actor) (y : LaneClaim) : Type 0 where
  pub not_held : (e : ℕ) (k : Mode) → claim_at claims a.core.0 a.lane.0 ≡ Held e k → ⊥
  pub size : length entries' ≡ length entries
  pub counts : (e : ℕ) (k : Mode) → e < m.directory → counted k (get_or entries' e no_claims) + one (holds_entry e k (claim_at claims a.core.0 a.lane.0)) ≡ counted k (get_or entries e no_claims) + one (holds_entry e k y)
  pub below : (e : ℕ) (k : Mode) → holds_entry e k y ≡ true → e < m.directory
  pub lone_first : (e : ℕ) (k : Mode) (d n : ℕ) → holds_entry e mode.Writer y ≡ true → holds_entry e k (claim_at claims d n) ≡ true → ⊥
  pub lone_second : (e : ℕ) (k : Mode) (d n : ℕ) → holds_entry e k y ≡ true → holds_entry e mode.Writer (claim_at claims d n) ≡ true → ⊥
  pub held : (e : ℕ) (k : Mode) → y ≡ Held e k → (p : PeiLook) × (look_in s a.core a.lane ≡ Some p) × (entry_of m p.block ≡ e) × (mode_of p.op ≡ k)
  pub waiting : (e : ℕ) → e < m.directory → (get_or entries' e no_claims).waiting + one (waits_on e (claim_at claims a.core.0 a.lane.0)) ≡ (get_or entries e no_claims).waiting + one (waits_on e y)
  pub announced : (e : ℕ) → y ≡ Announced e → (p : PeiLook) × (look_in s a.core a.lane ≡ Some p) × (p.phase ≡ phase.Issued) × (entry_of m p.block ≡ e) × (mode_of p.op ≡ mode.Writer)

pub holding_changed : (m : MachineSpec) (s : State) (entries entries' : List Claims) (claims : List (List LaneClaim)) (a : Actor) (y : LaneClaim) → IsTrue (is_actor_of m a) → Changes m s entries entries' claims a y → Holding m s entries claims → Holding m s entries' (changed claims a.core.0 a.lane.0 (λ _. y))
holding_changed m s entries entries' claims a y actor ch h =
    record {
      cores = length-change_at claims a.core.0 (λ lanes. change_at lanes a.lane.0 (λ _. y)) ∙ h.cores;
      lanes = λ c k. length-changed claims a.core.0 a.lane.0 c (λ _. y) w.core ∙ h.lanes c k;
      size = ch.size ∙ h.size;
      counts = λ e k below. same_count (counted k (get_or entries' e no_claims)) (counted k (get_or entries e no_claims)) _ _ _ _ (ch.counts e k below) (h.counts e k below) (count_change (holds_entry e k) claims a.core.0 a.lane.0 (λ _. y) w.core w.lane);
      below = below;
      lone = lone;
      active = active;
      held = held;
      waiting = λ e below. same_count (get_or entries' e no_claims).waiting (get_or entries e no_claims).waiting _ _ _ _ (ch.waiting e below) (h.waiting e below) (count_change (waits_on e) claims a.core.0 a.lane.0 (λ _. y) w.core w.lane);
      announced = announced;
      apart = h.apart;
    }
  where
    w : Within m a claims
    w = within m s entries claims a actor h

    same_count : (u v x' y' n n' : ℕ) → u + x' ≡ v + y' → v ≡ n → n' + x' ≡ n + y' → u ≡ n'
    same_count u v x' y' n n' p q r = omega (arith, p, q, r)

    here : (d n : ℕ) → (a.core.0 ≡ d) × (a.lane.0 ≡ n) → claim_at (changed claims a.core.0 a.lane.0 (λ _. y)) d n ≡ y
    here d n q =
        subst (λ z. claim_at (changed claims a.core.0 a.lane.0 (λ _. y)) z n ≡ y) q.0
        (subst (λ z. claim_at (changed claims a.core.0 a.lane.0 (λ _. y)) a.core.0 z ≡ y) q.1 (claim_here claims a.core.0 a.lane.0 (λ _. y) w.core w.lane))

    other : (d n : ℕ) → ((a.core.0 ≡ d) × (a.lane.0 ≡ n) → ⊥) → claim_at (changed claims a.core.0 a.lane.0 (λ _. y)) d n ≡ claim_at claims d n
    other d n q = claim_other claims a.core.0 a.lane.0 d n (λ _. y) w.core q

    below : (c l e : ℕ) (k : Mode) → holds_entry e k (claim_at (changed claims a.core.0 a.lane.0 (λ _. y)) c l) ≡ true → e < m.directory
    below c l e k g = by (place_cases a.core.0 a.lane.0 c l)
      where
        by : ((a.core.0 ≡ c) × (a.lane.0 ≡ l)) ⊎ ((a.core.0 ≡ c) × (a.lane.0 ≡ l) → ⊥) → e < m.directory
        by (inl p) = ch.below e k (ap (holds_entry e k) (sym (here c l p)) ∙ g)
        by (inr p) = h.below c l e k (ap (holds_entry e k) (sym (other c l p)) ∙ g)

    lone : (c l d n e : ℕ) (k : Mode) → holds_entry e mode.Writer (claim_at (changed claims a.core.0 a.lane.0 (λ _. y)) c l) ≡ true → holds_entry e k (claim_at (changed claims a.core.0 a.lane.0 (λ _. y)) d n) ≡ true → (c ≡ d) × (l ≡ n)
    lone c l d n e k h1 h2 = by (place_cases a.core.0 a.lane.0 c l) (place_cases a.core.0 a.lane.0 d n)
      where
        by : ((a.core.0 ≡ c) × (a.lane.0 ≡ l)) ⊎ ((a.core.0 ≡ c) × (a.lane.0 ≡ l) → ⊥) → ((a.core.0 ≡ d) × (a.lane.0 ≡ n)) ⊎ ((a.core.0 ≡ d) × (a.lane.0 ≡ n) → ⊥) → (c ≡ d) × (l ≡ n)
        by (inl p) (inl q) = (sym p.0 ∙ q.0, sym p.1 ∙ q.1)
        by (inl p) (inr q) = absurd (ch.lone_first e k d n (ap (holds_entry e mode.Writer) (sym (here c l p)) ∙ h1) (ap (holds_entry e k) (sym (other d n q)) ∙ h2))
        by (inr p) (inl q) = absurd (ch.lone_second e k c l (ap (holds_entry e k) (sym (here d n q)) ∙ h2) (ap (holds_entry e mode.Writer) (sym (other c l p)) ∙ h1))
        by (inr p) (inr q) = h.lone c l d n e k (ap (holds_entry e mode.Writer) (sym (other c l p)) ∙ h1) (ap (holds_entry e k) (sym (other d n q)) ∙ h2)

    active : (l : PeiLook) → In l s.peis → is_past_issue l ≡ true → claim_at (changed claims a.core.0 a.lane.0 (λ _. y)) l.id.core.0 l.lane.0 ≡ Held (entry_of m l.block) (mode_of l.op)
    active l i past = by (place_cases a.core.0 a.lane.0 l.id.core.0 l.lane.0)
      where
        by : ((a.core.0 ≡ l.id.core.0) × (a.lane.0 ≡ l.lane.0)) ⊎ ((a.core.0 ≡ l.id.core.0) × (a.lane.0 ≡ l.lane.0) → ⊥) → claim_at (changed claims a.core.0 a.lane.0 (λ _. y)) l.id.core.0 l.lane.0 ≡ Held (entry_of m l.block) (mode_of l.op)
        by (inl p) = absurd (ch.not_held (entry_of m l.block) (mode_of l.op) (ap₂ (claim_at claims) p.0 p.1 ∙ h.active l i past))
        by (inr p) = other l.id.core.0 l.lane.0 p ∙ h.active l i past

    held : (b : Actor) (e : ℕ) (k : Mode) → claim_at (changed claims a.core.0 a.lane.0 (λ _. y)) b.core.0 b.lane.0 ≡ Held e k → (p : PeiLook) × (look_in s b.core b.lane ≡ Some p) × (entry_of m p.block ≡ e) × (mode_of p.op ≡ k)
    held b e k g = by (place_cases a.core.0 a.lane.0 b.core.0 b.lane.0)
      where
        by : ((a.core.0 ≡ b.core.0) × (a.lane.0 ≡ b.lane.0)) ⊎ ((a.core.0 ≡ b.core.0) × (a.lane.0 ≡ b.lane.0) → ⊥) → (p : PeiLook) × (look_in s b.core b.lane ≡ Some p) × (entry_of m p.block ≡ e) × (mode_of p.op ≡ k)
        by (inl p) =
            let r = ch.held e k (sym (here b.core.0 b.lane.0 p) ∙ g)
            in (r.0, ap₂ (look_in s) (sym (core_is a.core b.core p.0)) (sym (lane_is a.lane b.lane p.1)) ∙ r.1, r.2, r.3)
        by (inr p) = h.held b e k (sym (other b.core.0 b.lane.0 p) ∙ g)

    announced : (b : Actor) (e : ℕ) → claim_at (changed claims a.core.0 a.lane.0 (λ _. y)) b.core.0 b.lane.0 ≡ Announced e → (p : PeiLook) × (look_in s b.core b.lane ≡ Some p) × (p.phase ≡ phase.Issued) × (entry_of m p.block ≡ e) × (mode_of p.op ≡ mode.Writer)
    announced b e g = by (place_cases a.core.0 a.lane.0 b.core.0 b.lane.0)
      where
        by : ((a.core.0 ≡ b.core.0) × (a.lane.0 ≡ b.lane.0)) ⊎ ((a.core.0 ≡ b.core.0) × (a.lane.0 ≡ b.lane.0) → ⊥) → (p : PeiLook) × (look_in s b.core b.lane ≡ Some p) × (p.phase ≡ phase.Issued) × (entry_of m p.block ≡ e) × (mode_of p.op ≡ mode.Writer)
        by (inl p) =
            let r = ch.announced e (sym (here b.core.0 b.lane.0 p) ∙ g)
            in (r.0, ap₂ (look_in s) (sym (core_is a.core b.core p.0)) (sym (lane_is a.lane b.lane p.1)) ∙ r.1, r.2, r.3, r.4)
        by (inr p) = h.announced b e (sym (other b.core.0 b.lane.0 p) ∙ g)

-- ---- entries

pub entry_here : (entries : List Claims) (e : ℕ) (f : Claims → Claims) → e < length entries → get_or (change_at entries e f) e no_claims ≡ f (get_or entries e no_claims)
entry_here entries e f h = get_or-change_at_same entries e f no_claims h

-- one entry changes a count
pub count_changed : (m : MachineSpec) (entries : List Claims) (at : ℕ) (f : Claims → Claims) (e : ℕ) (count : Claims → ℕ) (test : LaneClaim → Bool) (x y : LaneClaim) → length entries ≡ m.directory → e < m.directory → (at ≡ e → count (f (get_or entries e no_claims)) + one (test x) ≡ count (get_or entries e no_claims) + one (test y)) → ((at ≡ e → ⊥) → test x ≡ test y) → count (get_or (change_at entries at f) e no_claims) + one (test x) ≡ count (get_or entries e no_claims) + one (test y)
count_changed m entries at f e count test x y size below same differ = by (eqb at e) refl
  where
    by : (b : Bool) → eqb at e ≡ b → count (get_or (change_at entries at f) e no_claims) + one (test x) ≡ count (get_or entries e no_claims) + one (test y)
    by true q =
        let p : at ≡ e = eqb-true at e q
        in ap (λ c. count c + one (test x)) (ap (λ z. get_or (change_at entries z f) e no_claims) p ∙ entry_here entries e f (subst (λ n. e < n) (sym size) below)) ∙ same p
    by false q =
        ap₂ (λ c b. count c + one b) (get_or-change_at_other entries at e f no_claims (λ p. apart p)) (differ (λ p. apart p))
      where
        apart : at ≡ e → ⊥
        apart p = absurd (cc (sym q ∙ eq-eqb at e p))

differs : (at e : ℕ) → (at ≡ e → ⊥) → eqb at e ≡ false
differs at e q = go (eqb at e) refl
  where
    go : (b : Bool) → eqb at e ≡ b → eqb at e ≡ false
    go true u = absurd (q (eqb-true at e u))
    go false u = u

-- ---- the three steps of a lane

-- a lane that may try for its entry: a reader's at once, a writer's once it has announced itself
abbrev pub may_try : Mode → LaneClaim → Bool
may_try mode.Reader Free = true
may_try k (Announced at) = true
may_try _ _ = false

holds_none : (e : ℕ) (k how : Mode) (x : LaneClaim) → may_try how x ≡ true → holds_entry e k x ≡ false
holds_none e k how Free h = refl
holds_none e k how (Announced at) h = refl
holds_none e k mode.Reader (Held at mode) h = absurd (cc h)
holds_none e k mode.Writer (Held at mode) h = absurd (cc h)
holds_none e k mode.Reader (Spent at mode) h = absurd (cc h)
holds_none e k mode.Writer (Spent at mode) h = absurd (cc h)

counted_announced : (k : Mode) (c : Claims) → counted k (with_announcement c) ≡ counted k c
counted_announced mode.Reader c = refl
counted_announced mode.Writer c = refl

-- a writer announces itself
pub holding_announced : (m : MachineSpec) (s : State) (entries : List Claims) (claims : List (List LaneClaim)) (a : Actor) (p : PeiLook) → IsTrue (is_actor_of m a) → look_in s a.core a.lane ≡ Some p → p.phase ≡ phase.Issued → mode_of p.op ≡ mode.Writer → claim_at claims a.core.0 a.lane.0 ≡ Free → Holding m s entries claims → Holding m s (change_at entries (entry_of m p.block) with_announcement) (changed claims a.core.0 a.lane.0 (λ _. Announced (entry_of m p.block)))
holding_announced m s entries claims a p actor here issued writes free h =
    holding_changed m s entries (change_at entries at with_announcement) claims a (Announced at) actor
    (record {
      not_held = λ e k q. absurd (cc (sym free ∙ q));
      size = length-change_at entries at with_announcement;
      counts =
          λ e k below. count_changed m entries at with_announcement e (counted k) (holds_entry e k) (claim_at claims a.core.0 a.lane.0) (Announced at) h.size below
          (λ q. ap₂ (λ n x. n + one (holds_entry e k x)) (counted_announced k (get_or entries e no_claims)) free) (λ q. ap (holds_entry e k) free);
      below = λ e k q. absurd (cc q);
      lone_first = λ e k d n q. absurd (cc q);
      lone_second = λ e k d n q. absurd (cc q);
      held = λ e k q. absurd (cc q);
      waiting =
          λ e below. count_changed m entries at with_announcement e (λ c. c.waiting) (waits_on e) (claim_at claims a.core.0 a.lane.0) (Announced at) h.size below
          (λ q. ap (λ x. (get_or entries e no_claims).waiting + 1 + one (waits_on e x)) free ∙ one_more (get_or entries e no_claims).waiting ∙ ap (λ b. (get_or entries e no_claims).waiting + one b) (sym (eq-eqb at e q)))
          (λ q. ap (waits_on e) free ∙ sym (differs at e q));
      announced = λ e q. (p, here, issued, ap of_entry q, writes);
    }) h
  where
    at : ℕ
    at = entry_of m p.block

    of_entry : LaneClaim → ℕ
    of_entry (Announced e) = e
    of_entry _ = entry_of m p.block

    one_more : (n : ℕ) → n + 1 + 0 ≡ n + 1
    one_more n = omega arith

counted_with : (k how : Mode) (c : Claims) → counted k (with_claim c how) ≡ counted k c + one (same_mode how k)
counted_with mode.Reader mode.Reader c = refl
counted_with mode.Writer mode.Writer c = refl
counted_with mode.Reader mode.Writer c = add_none c.readers
  where
    add_none : (n : ℕ) → n ≡ n + 0
    add_none n = omega arith
counted_with mode.Writer mode.Reader c = add_none c.writers
  where
    add_none : (n : ℕ) → n ≡ n + 0
    add_none n = omega arith

granted_writers : (c : Claims) (how : Mode) → is_granted c how ≡ true → c.writers ≡ 0
granted_writers c mode.Reader h = eqb-true c.writers 0 (and_parts (eqb c.writers 0) (eqb c.waiting 0) h).0
granted_writers c mode.Writer h = eqb-true c.writers 0 (and_parts (eqb c.readers 0) (eqb c.writers 0) h).1

granted_all : (c : Claims) (k : Mode) → is_granted c mode.Writer ≡ true → counted k c ≡ 0
granted_all c mode.Reader h = eqb-true c.readers 0 (and_parts (eqb c.readers 0) (eqb c.writers 0) h).0
granted_all c mode.Writer h = eqb-true c.writers 0 (and_parts (eqb c.readers 0) (eqb c.writers 0) h).1

-- a claim is granted
pub holding_granted : (m : MachineSpec) (s : State) (entries : List Claims) (claims : List (List LaneClaim)) (a : Actor) (p : PeiLook) → IsTrue (is_actor_of m a) → look_in s a.core a.lane ≡ Some p → may_try (mode_of p.op) (claim_at claims a.core.0 a.lane.0) ≡ true → is_granted (get_or entries (entry_of m p.block) no_claims) (mode_of p.op) ≡ true → Holding m s entries claims → Holding m s (change_at entries (entry_of m p.block) (λ c. with_claim c (mode_of p.op))) (changed claims a.core.0 a.lane.0 (λ _. Held (entry_of m p.block) (mode_of p.op)))
holding_granted m s entries claims a p actor here free granted h =
    holding_changed m s entries (change_at entries at (λ c. with_claim c how)) claims a (Held at how) actor
    (record {
      not_held = λ e k q. tries_held how e k (ap (may_try how) (sym q) ∙ free);
      size = length-change_at entries at (λ c. with_claim c how);
      counts =
          λ e k below. count_changed m entries at (λ c. with_claim c how) e (counted k) (holds_entry e k) x (Held at how) h.size below (λ q. counts e k q) (λ q. holds_none e k how x free ∙ sym (ap (λ b. b && same_mode how k) (differs at e q)));
      below = λ e k q. subst (λ n. n < m.directory) (entry e k q) (entry_below m p.block);
      lone_first = λ e k d n q g. none_holds e k d n (first e q) g;
      lone_second = λ e k d n q g. no_writer e d n (entry e k q) g;
      held = λ e k q. (p, here, ap of_entry q, ap of_mode q);
      waiting = λ e below. count_changed m entries at (λ c. with_claim c how) e (λ c. c.waiting) (waits_on e) x (Held at how) h.size below (λ q. waiting e below q) (λ q. not_waiting e q);
      announced = λ e q. absurd (cc q);
    }) h
  where
    at : ℕ
    at = entry_of m p.block

    how : Mode
    how = mode_of p.op

    x : LaneClaim
    x = claim_at claims a.core.0 a.lane.0

    of_entry : LaneClaim → ℕ
    of_entry (Held e k) = e
    of_entry _ = entry_of m p.block

    of_mode : LaneClaim → Mode
    of_mode (Held e k) = k
    of_mode _ = mode_of p.op

    tries_held : (k : Mode) (e : ℕ) (k' : Mode) → may_try k (Held e k') ≡ true → ⊥
    tries_held mode.Reader e k' q = cc q
    tries_held mode.Writer e k' q = cc q

    -- what a lane waits for is its PEI's entry, as a writer
    own : (e : ℕ) → x ≡ Announced e → (at ≡ e) × (how ≡ mode.Writer)
    own e q =
        let r = h.announced a e q
        in let same : r.0 ≡ p = same_Some r.0 p (sym r.1 ∙ here)
        in (ap (λ z. entry_of m z.block) (sym same) ∙ r.3, ap (λ z. mode_of z.op) (sym same) ∙ r.4)

    waiting : (e : ℕ) → e < m.directory → at ≡ e → (with_claim (get_or entries e no_claims) how).waiting + one (waits_on e x) ≡ (get_or entries e no_claims).waiting + 0
    waiting e below q = by x refl how refl free
      where
        c : Claims
        c = get_or entries e no_claims

        one_less : (n : ℕ) → 0 < n → n - 1 + 1 ≡ n + 0
        one_less n k = omega (arith, k)

        waits : (i : ℕ) → x ≡ Announced i → waits_on e x ≡ true
        waits i e' = ap (waits_on e) e' ∙ eq-eqb i e (sym (own i e').0 ∙ q)

        by : (y : LaneClaim) → x ≡ y → (k : Mode) → how ≡ k → may_try k y ≡ true → (with_claim c how).waiting + one (waits_on e x) ≡ c.waiting + 0
        by Free e' mode.Reader e'' u = ap₂ (λ k z. (with_claim c k).waiting + one (waits_on e z)) e'' e'
        by Free e' mode.Writer e'' u = absurd (cc u)
        by (Announced i) e' k e'' u =
            ap₂ (λ k' b. (with_claim c k').waiting + one b) (own i e').1 (waits i e')
            ∙ one_less c.waiting (subst (λ n. 0 < n) (sym (h.waiting e below)) (count_some (waits_on e) claims a.core.0 a.lane.0 refl (waits i e')))
        by (Held i k') e' mode.Reader e'' u = absurd (cc u)
        by (Held i k') e' mode.Writer e'' u = absurd (cc u)
        by (Spent i k') e' mode.Reader e'' u = absurd (cc u)
        by (Spent i k') e' mode.Writer e'' u = absurd (cc u)

    not_waiting : (e : ℕ) → (at ≡ e → ⊥) → waits_on e x ≡ false
    not_waiting e q = by x refl
      where
        by : (y : LaneClaim) → x ≡ y → waits_on e x ≡ false
        by Free e' = ap (waits_on e) e'
        by (Announced i) e' = ap (waits_on e) e' ∙ differs i e (λ u. q ((own i e').0 ∙ u))
        by (Held i k) e' = ap (waits_on e) e'
        by (Spent i k) e' = ap (waits_on e) e'

    counts : (e : ℕ) (k : Mode) → at ≡ e → counted k (with_claim (get_or entries e no_claims) how) + one (holds_entry e k x) ≡ counted k (get_or entries e no_claims) + one (eqb at e && same_mode how k)
    counts e k q =
        ap₂ (λ n b. n + one b) (counted_with k how (get_or entries e no_claims)) (holds_none e k how x free)
        ∙ add_none (counted k (get_or entries e no_claims) + one (same_mode how k))
        ∙ ap (λ b. counted k (get_or entries e no_claims) + one (b && same_mode how k)) (sym (eq-eqb at e q))
      where
        add_none : (n : ℕ) → n + 0 ≡ n
        add_none n = omega arith

    entry : (e : ℕ) (k : Mode) → (eqb at e && same_mode how k) ≡ true → at ≡ e
    entry e k q = eqb-true at e (and_parts (eqb at e) (same_mode how k) q).0

    first : (e : ℕ) → (eqb at e && same_mode how mode.Writer) ≡ true → (at ≡ e) × (how ≡ mode.Writer)
    first e q = let both = and_parts (eqb at e) (same_mode how mode.Writer) q in (eqb-true at e both.0, writer how both.1)
      where
        writer : (k : Mode) → same_mode k mode.Writer ≡ true → k ≡ mode.Writer
        writer mode.Writer u = refl
        writer mode.Reader u = absurd (cc u)

    empty : (k : Mode) (d n : ℕ) → counted k (get_or entries at no_claims) ≡ 0 → holds_entry at k (claim_at claims d n) ≡ true → ⊥
    empty k d n none g = no_less (count_some (holds_entry at k) claims d n refl g) (sym (h.counts at k (entry_below m p.block)) ∙ none)
      where
        no_less : {i : ℕ} → 0 < i → i ≡ 0 → ⊥
        no_less {i} u v = omega (arith, u, v)

    no_writer : (e d n : ℕ) → at ≡ e → holds_entry e mode.Writer (claim_at claims d n) ≡ true → ⊥
    no_writer e d n q g = empty mode.Writer d n (granted_writers (get_or entries at no_claims) how granted) (subst (λ z. holds_entry z mode.Writer (claim_at claims d n) ≡ true) (sym q) g)

    none_holds : (e : ℕ) (k : Mode) (d n : ℕ) → (at ≡ e) × (how ≡ mode.Writer) → holds_entry e k (claim_at claims d n) ≡ true → ⊥
    none_holds e k d n q g = empty k d n (granted_all (get_or entries at no_claims) k (subst (λ z. is_granted (get_or entries at no_claims) z ≡ true) q.1 granted)) (subst (λ z. holds_entry z k (claim_at claims d n) ≡ true) (sym q.0) g)

counted_without : (k how : Mode) (c : Claims) → 0 < counted how c → counted k (without_claim c how) + one (same_mode how k) ≡ counted k c
counted_without mode.Reader mode.Reader c h = omega (arith, h)
counted_without mode.Writer mode.Writer c h = omega (arith, h)
counted_without mode.Reader mode.Writer c h = add_none c.readers
  where
    add_none : (n : ℕ) → n + 0 ≡ n
    add_none n = omega arith
counted_without mode.Writer mode.Reader c h = add_none c.writers
  where
    add_none : (n : ℕ) → n + 0 ≡ n
    add_none n = omega arith

same_mode_refl : (k : Mode) → same_mode k k ≡ true
same_mode_refl mode.Reader = refl
same_mode_refl mode.Writer = refl

-- a claim whose PEI has left is released
pub holding_released : (m : MachineSpec) (s : State) (entries : List Claims) (claims : List (List LaneClaim)) (a : Actor) (at : ℕ) (how : Mode) → IsTrue (is_actor_of m a) → claim_at claims a.core.0 a.lane.0 ≡ Spent at how → Holding m s entries claims → Holding m s (change_at entries at (λ c. without_claim c how)) (changed claims a.core.0 a.lane.0 (λ _. Free))
holding_released m s entries claims a at how actor spent h =
    holding_changed m s entries (change_at entries at (λ c. without_claim c how)) claims a Free actor
    (record {
      not_held = λ e k q. absurd (cc (sym spent ∙ q));
      size = length-change_at entries at (λ c. without_claim c how);
      counts = λ e k below. count_changed m entries at (λ c. without_claim c how) e (counted k) (holds_entry e k) x Free h.size below (λ q. counts e k below q) (λ q. ap (holds_entry e k) spent ∙ ap (λ b. b && same_mode how k) (differs at e q));
      below = λ e k q. absurd (cc q);
      lone_first = λ e k d n q. absurd (cc q);
      lone_second = λ e k d n q. absurd (cc q);
      held = λ e k q. absurd (cc q);
      waiting = λ e below. count_changed m entries at (λ c. without_claim c how) e (λ c. c.waiting) (waits_on e) x Free h.size below (λ q. ap₂ (λ n y. n + one (waits_on e y)) (waiting_kept how (get_or entries e no_claims)) spent) (λ q. ap (waits_on e) spent);
      announced = λ e q. absurd (cc q);
    }) h
  where
    x : LaneClaim
    x = claim_at claims a.core.0 a.lane.0

    waiting_kept : (k : Mode) (c : Claims) → (without_claim c k).waiting ≡ c.waiting
    waiting_kept mode.Reader c = refl
    waiting_kept mode.Writer c = refl

    holds : (e : ℕ) (k : Mode) → at ≡ e → holds_entry e k x ≡ same_mode how k
    holds e k q = ap (holds_entry e k) spent ∙ ap (λ b. b && same_mode how k) (eq-eqb at e q)

    counts : (e : ℕ) (k : Mode) → e < m.directory → at ≡ e → counted k (without_claim (get_or entries e no_claims) how) + one (holds_entry e k x) ≡ counted k (get_or entries e no_claims) + 0
    counts e k below q =
        ap (λ b. counted k (without_claim (get_or entries e no_claims) how) + one b) (holds e k q)
        ∙ counted_without k how (get_or entries e no_claims) (more (count_some (holds_entry e how) claims a.core.0 a.lane.0 refl (holds e how q ∙ same_mode_refl how)) (h.counts e how below))
        ∙ add_none (counted k (get_or entries e no_claims))
      where
        more : {i j : ℕ} → 0 < i → j ≡ i → 0 < j
        more {i} {j} u v = omega (arith, u, v)

        add_none : (n : ℕ) → n ≡ n + 0
        add_none n = omega arith

-- ---- the state changes, and no claim

-- what PEIs in another state need
pub record Follows (m : MachineSpec) (s t : State) (claims : List (List LaneClaim)) : Type 0 where
  pub active : (l : PeiLook) → In l t.peis → is_past_issue l ≡ true → claim_at claims l.id.core.0 l.lane.0 ≡ Held (entry_of m l.block) (mode_of l.op)
  pub looks : (c : CoreId) (l : Lane) (p : PeiLook) → look_in s c l ≡ Some p → (q : PeiLook) × (look_in t c l ≡ Some q) × (q.block ≡ p.block) × (q.op ≡ p.op)
  pub waits : (c : CoreId) (l : Lane) (e : ℕ) (p : PeiLook) → claim_at claims c.0 l.0 ≡ Announced e → look_in s c l ≡ Some p → p.phase ≡ phase.Issued → look_in t c l ≡ Some p
  pub apart : LanesApart t

pub holding_follows : (m : MachineSpec) (s t : State) (entries : List Claims) (claims : List (List LaneClaim)) → Follows m s t claims → Holding m s entries claims → Holding m t entries claims
holding_follows m s t entries claims f h =
    record {
      cores = h.cores;
      lanes = h.lanes;
      size = h.size;
      counts = h.counts;
      below = h.below;
      lone = h.lone;
      active = f.active;
      held = λ a e k g. let r = h.held a e k g in let q = f.looks a.core a.lane r.0 r.1 in (q.0, q.1, ap (entry_of m) q.2 ∙ r.2, ap mode_of q.3 ∙ r.3);
      waiting = h.waiting;
      announced = λ a e g. let r = h.announced a e g in (r.0, f.waits a.core a.lane e r.0 g r.1 r.2, r.2, r.3, r.4);
      apart = f.apart;
    }

pub follows_same : (m : MachineSpec) (s t : State) (entries : List Claims) (claims : List (List LaneClaim)) → t.peis ≡ s.peis → Holding m s entries claims → Follows m s t claims
follows_same m s t entries claims same h =
    record {
      active = λ l i. h.active l (subst (In l) same i);
      looks = λ c l p g. (p, ap (find (λ z. same_core z.id.core c && same_lane z.lane l)) same ∙ g, refl, refl);
      waits = λ c l e p claim g issued. ap (find (λ z. same_core z.id.core c && same_lane z.lane l)) same ∙ g;
      apart = λ p q i j. h.apart p q (subst (In p) same i) (subst (In q) same j);
    }

-- the parts of a PEI that stay when it moves on
with_phase_parts : (id : PeiId) (ph : Phase) (l : PeiLook) → ((with_phase id ph l).id ≡ l.id) × ((with_phase id ph l).lane ≡ l.lane) × ((with_phase id ph l).block ≡ l.block) × ((with_phase id ph l).op ≡ l.op)
with_phase_parts id ph l = by (same_pei l.id id)
  where
    by : (b : Bool) → ((if b then moved ph l else l).id ≡ l.id) × ((if b then moved ph l else l).lane ≡ l.lane) × ((if b then moved ph l else l).block ≡ l.block) × ((if b then moved ph l else l).op ≡ l.op)
    by true = (refl, refl, refl, refl)
    by false = (refl, refl, refl, refl)

pub follows_moved : (m : MachineSpec) (s t : State) (entries : List Claims) (claims : List (List LaneClaim)) (id : PeiId) (ph : Phase) → is_phase ph phase.Issued ≡ false → t.peis ≡ map (with_phase id ph) s.peis → ((l : PeiLook) → In l s.peis → is_past_issue (with_phase id ph l) ≡ true → claim_at claims l.id.core.0 l.lane.0 ≡ Held (entry_of m l.block) (mode_of l.op)) → Holding m s entries claims → Follows m s t claims
follows_moved m s t entries claims id ph later same has h = record { active = active; looks = looks; waits = waits; apart = apart }
  where
    f : PeiLook → PeiLook
    f = with_phase id ph

    active : (l : PeiLook) → In l t.peis → is_past_issue l ≡ true → claim_at claims l.id.core.0 l.lane.0 ≡ Held (entry_of m l.block) (mode_of l.op)
    active l i past =
        let x = in_map f s.peis l (subst (In l) same i)
        in let parts = with_phase_parts id ph x.0
        in subst (λ z. claim_at claims z.id.core.0 z.lane.0 ≡ Held (entry_of m z.block) (mode_of z.op)) (sym x.2)
        (ap₂ (λ d n. claim_at claims d.core.0 n.0) parts.0 parts.1 ∙ has x.0 x.1 (ap is_past_issue (sym x.2) ∙ past) ∙ ap₂ (λ b o. Held (entry_of m b) (mode_of o)) (sym parts.2) (sym parts.3))

    moves : (c : CoreId) (l : Lane) (p : PeiLook) → look_in s c l ≡ Some p → look_in t c l ≡ Some (f p)
    moves c l p g =
        ap (find (λ z. same_core z.id.core c && same_lane z.lane l)) same
        ∙ find-map (λ z. same_core z.id.core c && same_lane z.lane l) f s.peis
        ∙ ap (option_map f) (find_agree (λ z. same_core (f z).id.core c && same_lane (f z).lane l) (λ z. same_core z.id.core c && same_lane z.lane l) s.peis (each_in _ s.peis (λ z i. ap₂ (λ d n. same_core d.core c && same_lane n l) (with_phase_parts id ph z).0 (with_phase_parts id ph z).1)) ∙ g)

    looks : (c : CoreId) (l : Lane) (p : PeiLook) → look_in s c l ≡ Some p → (q : PeiLook) × (look_in t c l ≡ Some q) × (q.block ≡ p.block) × (q.op ≡ p.op)
    looks c l p g = let parts = with_phase_parts id ph p in (f p, moves c l p g, parts.2, parts.3)

    -- what moves on has its entry, and waits for none
    waits : (c : CoreId) (l : Lane) (e : ℕ) (p : PeiLook) → claim_at claims c.0 l.0 ≡ Announced e → look_in s c l ≡ Some p → p.phase ≡ phase.Issued → look_in t c l ≡ Some p
    waits c l e p claim g issued = moves c l p g ∙ ap Some (by (same_pei p.id id) refl)
      where
        by : (b : Bool) → same_pei p.id id ≡ b → f p ≡ p
        by true q =
            let seen = find_Some (λ z. same_core z.id.core c && same_lane z.lane l) s.peis p g
            in let both = and_parts (same_core p.id.core c) (same_lane p.lane l) seen.1
            in absurd (cc (sym claim ∙ sym (ap₂ (claim_at claims) (eqb-true p.id.core.0 c.0 both.0) (eqb-true p.lane.0 l.0 both.1)) ∙ has p seen.0 (ap (λ b. is_past_issue (if b then moved ph p else p)) q ∙ ap not later)))
        by false q = ap (λ b. if b then moved ph p else p) q

    apart : (p q : PeiLook) → In p t.peis → In q t.peis → same_core p.id.core q.id.core ≡ true → same_lane p.lane q.lane ≡ true → p ≡ q
    apart p q i j c l =
        let x = in_map f s.peis p (subst (In p) same i)
        in let y = in_map f s.peis q (subst (In q) same j)
        in let px = with_phase_parts id ph x.0
        in let qy = with_phase_parts id ph y.0
        in let core : same_core x.0.id.core y.0.id.core ≡ true = ap₂ (λ d n. same_core d.core n.core) (sym px.0 ∙ ap (λ z. z.id) (sym x.2)) (sym qy.0 ∙ ap (λ z. z.id) (sym y.2)) ∙ c
        in let lane : same_lane x.0.lane y.0.lane ≡ true = ap₂ (λ d n. same_lane d n) (sym px.1 ∙ ap (λ z. z.lane) (sym x.2)) (sym qy.1 ∙ ap (λ z. z.lane) (sym y.2)) ∙ l
        in x.2 ∙ ap f (h.apart x.0 y.0 x.1 y.1 core lane) ∙ sym y.2

pub follows_issued : (m : MachineSpec) (s t : State) (entries : List Claims) (claims : List (List LaneClaim)) (n : PeiLook) → t.peis ≡ s.peis ++ n ∷ [] → is_past_issue n ≡ false → look_in s n.id.core n.lane ≡ None → Holding m s entries claims → Follows m s t claims
follows_issued m s t entries claims n same fresh free h = record { active = active; looks = looks; waits = λ c l e p claim g issued. (looks c l p g).1; apart = apart }
  where
    active : (l : PeiLook) → In l t.peis → is_past_issue l ≡ true → claim_at claims l.id.core.0 l.lane.0 ≡ Held (entry_of m l.block) (mode_of l.op)
    active l i past = by (in_push s.peis n l (subst (In l) same i))
      where
        by : In l s.peis ⊎ (l ≡ n) → claim_at claims l.id.core.0 l.lane.0 ≡ Held (entry_of m l.block) (mode_of l.op)
        by (inl j) = h.active l j past
        by (inr e) = absurd (cc (sym past ∙ ap is_past_issue e ∙ fresh))

    looks : (c : CoreId) (l : Lane) (p : PeiLook) → look_in s c l ≡ Some p → (q : PeiLook) × (look_in t c l ≡ Some q) × (q.block ≡ p.block) × (q.op ≡ p.op)
    looks c l p g = (
      p,
      ap (find (λ z. same_core z.id.core c && same_lane z.lane l)) same ∙ find-append (λ z. same_core z.id.core c && same_lane z.lane l) s.peis (n ∷ []) ∙ rw g refl,
      refl,
      refl,
    )

    apart : (p q : PeiLook) → In p t.peis → In q t.peis → same_core p.id.core q.id.core ≡ true → same_lane p.lane q.lane ≡ true → p ≡ q
    apart p q i j c l = by (in_push s.peis n p (subst (In p) same i)) (in_push s.peis n q (subst (In q) same j))
      where
        none : (z : PeiLook) → In z s.peis → (same_core z.id.core n.id.core && same_lane z.lane n.lane) ≡ false
        none z k = find_None (λ y. same_core y.id.core n.id.core && same_lane y.lane n.lane) s.peis z free k

        by : In p s.peis ⊎ (p ≡ n) → In q s.peis ⊎ (q ≡ n) → p ≡ q
        by (inl u) (inl v) = h.apart p q u v c l
        by (inr e) (inr d) = e ∙ sym d
        by (inl u) (inr d) = absurd (cc (sym (both (same_core p.id.core n.id.core) (same_lane p.lane n.lane) (subst (λ z. same_core p.id.core z.id.core ≡ true) d c) (subst (λ z. same_lane p.lane z.lane ≡ true) d l)) ∙ none p u))
          where
            both : (x y : Bool) → x ≡ true → y ≡ true → (x && y) ≡ true
            both x y e f = rw (e, f) refl
        by (inr e) (inl v) =
            absurd (cc (sym (both (same_core q.id.core n.id.core) (same_lane q.lane n.lane) (eqb_sym q.id.core.0 n.id.core.0 ∙ subst (λ z. same_core z.id.core q.id.core ≡ true) e c) (eqb_sym q.lane.0 n.lane.0 ∙ subst (λ z. same_lane z.lane q.lane ≡ true) e l)) ∙ none q v))
          where
            both : (x y : Bool) → x ≡ true → y ≡ true → (x && y) ≡ true
            both x y e' f' = rw (e', f') refl

-- ---- a PEI leaves, and its claim is spent

pub holding_left : (m : MachineSpec) (s t : State) (entries : List Claims) (claims : List (List LaneClaim)) (a : Actor) (seq : ℕ) (l : PeiLook) → IsTrue (is_actor_of m a) → t.peis ≡ without (λ p. same_pei p.id (pei_id a seq)) s.peis → In l s.peis → l.id ≡ pei_id a seq → l.lane ≡ a.lane → is_past_issue l ≡ true → ((z : PeiLook) → In z s.peis → z.id ≡ l.id → z ≡ l) → Holding m s entries claims → Holding m t entries (changed claims a.core.0 a.lane.0 (after_leave (event.Leave seq)))
holding_left m s t entries claims a seq l actor same i named lane past unique h =
    record {
      cores = length-change_at claims a.core.0 (λ lanes. change_at lanes a.lane.0 f) ∙ h.cores;
      lanes = λ c k. length-changed claims a.core.0 a.lane.0 c f w.core ∙ h.lanes c k;
      size = h.size;
      counts = λ e k below. h.counts e k below ∙ sym (same_count _ _ _ _ (count_change (holds_entry e k) claims a.core.0 a.lane.0 f w.core w.lane) (ap one (sym (ap (λ z. holds_entry e k (f z)) was ∙ sym (ap (holds_entry e k) was)))));
      below = λ c n e k g. h.below c n e k (sym (holds e k c n) ∙ g);
      lone = λ c n d o e k h1 h2. h.lone c n d o e k (sym (holds e mode.Writer c n) ∙ h1) (sym (holds e k d o) ∙ h2);
      active = active;
      held = held;
      waiting = λ e below. h.waiting e below ∙ sym (same_count _ _ _ _ (count_change (waits_on e) claims a.core.0 a.lane.0 f w.core w.lane) (ap one (sym (spent_waits e (claim_at claims a.core.0 a.lane.0)))));
      announced = announced;
      apart = λ p q u v. h.apart p q (stays p u).0 (stays q v).0;
    }
  where
    f : LaneClaim → LaneClaim
    f = after_leave (event.Leave seq)

    w : Within m a claims
    w = within m s entries claims a actor h

    was : claim_at claims a.core.0 a.lane.0 ≡ Held (entry_of m l.block) (mode_of l.op)
    was = ap₂ (λ d n. claim_at claims d.core.0 n.0) (sym named) (sym lane) ∙ h.active l i past

    same_count : (n n' x y : ℕ) → n' + x ≡ n + y → x ≡ y → n' ≡ n
    same_count n n' x y p q = omega (arith, p, q)

    here : (d n : ℕ) → (a.core.0 ≡ d) × (a.lane.0 ≡ n) → claim_at (changed claims a.core.0 a.lane.0 f) d n ≡ f (claim_at claims d n)
    here d n q =
        subst (λ z. claim_at (changed claims a.core.0 a.lane.0 f) z n ≡ f (claim_at claims z n)) q.0
        (subst (λ z. claim_at (changed claims a.core.0 a.lane.0 f) a.core.0 z ≡ f (claim_at claims a.core.0 z)) q.1 (claim_here claims a.core.0 a.lane.0 f w.core w.lane))

    other : (d n : ℕ) → ((a.core.0 ≡ d) × (a.lane.0 ≡ n) → ⊥) → claim_at (changed claims a.core.0 a.lane.0 f) d n ≡ claim_at claims d n
    other d n q = claim_other claims a.core.0 a.lane.0 d n f w.core q

    spent_holds : (e : ℕ) (k : Mode) (x : LaneClaim) → holds_entry e k (f x) ≡ holds_entry e k x
    spent_holds e k (Held at how) = refl
    spent_holds e k (Spent at how) = refl
    spent_holds e k Free = refl
    spent_holds e k (Announced at) = refl

    spent_waits : (e : ℕ) (x : LaneClaim) → waits_on e (f x) ≡ waits_on e x
    spent_waits e (Held at how) = refl
    spent_waits e (Spent at how) = refl
    spent_waits e Free = refl
    spent_waits e (Announced at) = refl

    holds : (e : ℕ) (k : Mode) (d n : ℕ) → holds_entry e k (claim_at (changed claims a.core.0 a.lane.0 f) d n) ≡ holds_entry e k (claim_at claims d n)
    holds e k d n = by (place_cases a.core.0 a.lane.0 d n)
      where
        by : ((a.core.0 ≡ d) × (a.lane.0 ≡ n)) ⊎ ((a.core.0 ≡ d) × (a.lane.0 ≡ n) → ⊥) → holds_entry e k (claim_at (changed claims a.core.0 a.lane.0 f) d n) ≡ holds_entry e k (claim_at claims d n)
        by (inl p) = ap (holds_entry e k) (here d n p) ∙ spent_holds e k (claim_at claims d n)
        by (inr p) = ap (holds_entry e k) (other d n p)

    stays : (p : PeiLook) → In p t.peis → In p s.peis × (same_pei p.id (pei_id a seq) ≡ false)
    stays p u = let r = in_filter (λ q. not (same_pei q.id (pei_id a seq))) s.peis p (subst (In p) same u) in (r.0, not-true (same_pei p.id (pei_id a seq)) r.1)

    -- a PEI in the actor's lane is the one that leaves
    own : (p : PeiLook) → In p s.peis → (a.core.0 ≡ p.id.core.0) × (a.lane.0 ≡ p.lane.0) → p ≡ l
    own p u q = h.apart p l u i (eq-eqb p.id.core.0 l.id.core.0 (sym q.0 ∙ ap (λ z. z.core.0) (sym named))) (eq-eqb p.lane.0 l.lane.0 (sym q.1 ∙ ap (λ z. z.0) (sym lane)))

    active : (p : PeiLook) → In p t.peis → is_past_issue p ≡ true → claim_at (changed claims a.core.0 a.lane.0 f) p.id.core.0 p.lane.0 ≡ Held (entry_of m p.block) (mode_of p.op)
    active p u past' = by (place_cases a.core.0 a.lane.0 p.id.core.0 p.lane.0)
      where
        by : ((a.core.0 ≡ p.id.core.0) × (a.lane.0 ≡ p.lane.0)) ⊎ ((a.core.0 ≡ p.id.core.0) × (a.lane.0 ≡ p.lane.0) → ⊥) → claim_at (changed claims a.core.0 a.lane.0 f) p.id.core.0 p.lane.0 ≡ Held (entry_of m p.block) (mode_of p.op)
        by (inl q) = absurd (cc (sym (same_pei_refl (pei_id a seq)) ∙ ap (λ d. same_pei d (pei_id a seq)) (sym (ap (λ z. z.id) (own p (stays p u).0 q) ∙ named)) ∙ (stays p u).1))
        by (inr q) = other p.id.core.0 p.lane.0 q ∙ h.active p (stays p u).0 past'

    -- another lane's PEI stays
    elsewhere : (b : Actor) (p : PeiLook) → ((a.core.0 ≡ b.core.0) × (a.lane.0 ≡ b.lane.0) → ⊥) → look_in s b.core b.lane ≡ Some p → look_in t b.core b.lane ≡ Some p
    elsewhere b p apart g =
        let seen = find_Some (λ z. same_core z.id.core b.core && same_lane z.lane b.lane) s.peis p g
        in let both = and_parts (same_core p.id.core b.core) (same_lane p.lane b.lane) seen.1
        in ap (find (λ z. same_core z.id.core b.core && same_lane z.lane b.lane)) same
        ∙ find_filter (λ z. same_core z.id.core b.core && same_lane z.lane b.lane) (λ z. not (same_pei z.id (pei_id a seq))) s.peis p g (ap not (by seen.0 both.0 both.1 (same_pei p.id (pei_id a seq)) refl))
      where
        by : In p s.peis → same_core p.id.core b.core ≡ true → same_lane p.lane b.lane ≡ true → (v : Bool) → same_pei p.id (pei_id a seq) ≡ v → same_pei p.id (pei_id a seq) ≡ false
        by u c n true e = absurd (apart (ap (λ d. d.core.0) (sym (same_pei_is p.id (pei_id a seq) e)) ∙ eqb-true p.id.core.0 b.core.0 c, at_lane))
          where
            at_lane : a.lane.0 ≡ b.lane.0
            at_lane = ap (λ d. d.0) (sym lane ∙ ap (λ d. d.lane) (sym (unique p u (same_pei_is p.id (pei_id a seq) e ∙ sym named)))) ∙ eqb-true p.lane.0 b.lane.0 n
        by u c n false e = e

    -- the claim at the actor's place is spent
    spent_here : (b : Actor) (x : LaneClaim) → (a.core.0 ≡ b.core.0) × (a.lane.0 ≡ b.lane.0) → claim_at (changed claims a.core.0 a.lane.0 f) b.core.0 b.lane.0 ≡ x → x ≡ Spent (entry_of m l.block) (mode_of l.op)
    spent_here b x p g = sym g ∙ here b.core.0 b.lane.0 p ∙ ap f (ap₂ (claim_at claims) (sym p.0) (sym p.1) ∙ was)

    held : (b : Actor) (e : ℕ) (k : Mode) → claim_at (changed claims a.core.0 a.lane.0 f) b.core.0 b.lane.0 ≡ Held e k → (p : PeiLook) × (look_in t b.core b.lane ≡ Some p) × (entry_of m p.block ≡ e) × (mode_of p.op ≡ k)
    held b e k g = by (place_cases a.core.0 a.lane.0 b.core.0 b.lane.0)
      where
        by : ((a.core.0 ≡ b.core.0) × (a.lane.0 ≡ b.lane.0)) ⊎ ((a.core.0 ≡ b.core.0) × (a.lane.0 ≡ b.lane.0) → ⊥) → (p : PeiLook) × (look_in t b.core b.lane ≡ Some p) × (entry_of m p.block ≡ e) × (mode_of p.op ≡ k)
        by (inl p) = absurd (cc (spent_here b (Held e k) p g))
        by (inr p) = let r = h.held b e k (sym (other b.core.0 b.lane.0 p) ∙ g) in (r.0, elsewhere b r.0 p r.1, r.2, r.3)

    announced : (b : Actor) (e : ℕ) → claim_at (changed claims a.core.0 a.lane.0 f) b.core.0 b.lane.0 ≡ Announced e → (p : PeiLook) × (look_in t b.core b.lane ≡ Some p) × (p.phase ≡ phase.Issued) × (entry_of m p.block ≡ e) × (mode_of p.op ≡ mode.Writer)
    announced b e g = by (place_cases a.core.0 a.lane.0 b.core.0 b.lane.0)
      where
        by : ((a.core.0 ≡ b.core.0) × (a.lane.0 ≡ b.lane.0)) ⊎ ((a.core.0 ≡ b.core.0) × (a.lane.0 ≡ b.lane.0) → ⊥) → (p : PeiLook) × (look_in t b.core b.lane ≡ Some p) × (p.phase ≡ phase.Issued) × (entry_of m p.block ≡ e) × (mode_of p.op ≡ mode.Writer)
        by (inl p) = absurd (cc (spent_here b (Announced e) p g))
        by (inr p) = let r = h.announced b e (sym (other b.core.0 b.lane.0 p) ∙ g) in (r.0, elsewhere b r.0 p r.1, r.2, r.3, r.4)

-- ---- what the counts tell

pub held_counts : (m : MachineSpec) (s : State) (entries : List Claims) (claims : List (List LaneClaim)) → Holding m s entries claims → (c l e : ℕ) (k : Mode) → holds_entry e k (claim_at claims c l) ≡ true → 0 < counted k (get_or entries e no_claims)
held_counts m s entries claims h c l e k holds = subst (λ n. 0 < n) (sym (h.counts e k (h.below c l e k holds))) (count_some (holds_entry e k) claims c l refl holds)

pub waiting_counts : (m : MachineSpec) (s : State) (entries : List Claims) (claims : List (List LaneClaim)) → Holding m s entries claims → (c l e : ℕ) → e < m.directory → waits_on e (claim_at claims c l) ≡ true → 0 < (get_or entries e no_claims).waiting
waiting_counts m s entries claims h c l e below waits = subst (λ n. 0 < n) (sym (h.waiting e below)) (count_some (waits_on e) claims c l refl waits)

few : (m : MachineSpec) (s : State) (entries : List Claims) (claims : List (List LaneClaim)) (t : LaneClaim → Bool) → Holding m s entries claims → count_all t claims ≤ 40
few m s entries claims t h = omega (arith, count_few t claims (λ c within. five c (subst (λ n. c < n) h.cores within)), h.cores, m.cores_in_limits.1)
  where
    five : (c : ℕ) → c < m.cores → length (list_at claims c) ≤ 5
    five c within = omega (arith, h.lanes c within, m.buffer_in_limits.1)

pub few_hold : (m : MachineSpec) (s : State) (entries : List Claims) (claims : List (List LaneClaim)) → Holding m s entries claims → (e : ℕ) (k : Mode) → e < m.directory → counted k (get_or entries e no_claims) ≤ 40
few_hold m s entries claims h e k below = subst (λ n. n ≤ 40) (sym (h.counts e k below)) (few m s entries claims (holds_entry e k) h)

pub few_wait : (m : MachineSpec) (s : State) (entries : List Claims) (claims : List (List LaneClaim)) → Holding m s entries claims → (e : ℕ) → e < m.directory → (get_or entries e no_claims).waiting ≤ 40
few_wait m s entries claims h e below = subst (λ n. n ≤ 40) (sym (h.waiting e below)) (few m s entries claims (waits_on e) h)
