-- A lane's turn is the definition's step.
use Rattle.std.proofs.Common.{◌≡◌, ℕ, zero, suc, ◌+◌, ◌<◌, Bool, true, false, if◌then◌else◌, List, [], ◌∷◌, ◌++◌, map, take, replicate, get_or, slice_set, Option, Some, None, refl, sym, ◌∙◌, ap, subst, arith}
use Rattle.pei_types.specs.declared.identifiers.Actor.{Actor}
use Rattle.pei_types.specs.declared.identifiers.PeiId.{PeiId}
use Rattle.pei_types.specs.declared.events.Event.{Event}
use Rattle.pei_types.specs.declared.events.EventKind.{EventKind}
use Rattle.pei_types.specs.declared.events.EventKind.TheVariants as event
use Rattle.pei_types.specs.declared.inflight_looks.PeiLook.{PeiLook}
use Rattle.pei_types.specs.declared.inflight_looks.StallCause.{StallCause}
use Rattle.pei_types.specs.declared.inflight_looks.StallCause.TheVariants as stall
use Rattle.pei_types.specs.declared.machines.MachineSpec.{MachineSpec}
use Rattle.pei_types.specs.declared.operations.Mode.{Mode}
use Rattle.pei_types.specs.declared.operations.Mode.TheVariants as mode
use Rattle.pei_types.specs.Blocks.{entry_of}
use Rattle.pei_types.specs.Claims.{Claims, with_announcement, with_claim, without_claim}
use Rattle.pei_types.specs.MachineState.{first_unentered, look_in}
use Rattle.pei_types.specs.Guard.{is_pei}
use Rattle.pei_types.specs.Next.{Turn as Row, Makes, Stalls, lane_row}
use Rattle.pei_types.specs.Operation.{mode_of}
use Rattle.pei_types.specs.Recency.{change_at, list_at}
use Rattle.pei_types.specs.Schedule.{Run, Table, LaneClaim, Free, Announced, Held, after_leave, after_stall, after_try, by_row, claim_of, claiming, lane_step, peis_step, toward_enter, toward_enter_of, whole_table, with_lane_event, with_step}
use Rattle.fabric.specs.History.{History, content_of, lane_row_of, needs_of, state_of}
use Rattle.fabric.specs.Needs.{entry_needed}
use Rattle.inflight.specs.OnTheWay.{IsLaneOf}
use Rattle.sched_run.specs.LaneClaims.{claim_after, claim_in, claims_of, none_held, seen_claim, stepped, with_claim_at}
use Rattle.sched_run.specs.Steps.{Enters, GoesOn, IsOwn, IsUnspent, Took, Tries, made_in, run_at, waited, with_made}
use Rattle.sched_run.specs.declared.turns.Step.{Step}
use Rattle.sched_run.specs.declared.turns.Step.TheVariants as step
use Rattle.sched_run.specs.declared.claims.Desk.{Desk}
use Rattle.sched_run.specs.declared.claims.LaneClaim.{LaneClaim as Claim}
use Rattle.sched_run.specs.declared.claims.LaneClaim.TheVariants as claim
use Rattle.sched_run.specs.declared.claims.OwnClaims.{OwnClaims}

-- ---- the front of a list, with an item changed

take_change : {A B : Type 0} (f : A → B) (g : A → A) (h : B → B) → ((x : A) → f (g x) ≡ h (f x)) → (n i : ℕ) (xs : List A) → map f (take n (change_at xs i g)) ≡ change_at (map f (take n xs)) i h
take_change f g h e zero i [] = refl
take_change f g h e zero zero (x ∷ xs) = refl
take_change f g h e zero (suc i) (x ∷ xs) = refl
take_change f g h e (suc n) i [] = refl
take_change f g h e (suc n) zero (x ∷ xs) = ap (λ y. y ∷ map f (take n xs)) (e x)
take_change f g h e (suc n) (suc i) (x ∷ xs) = ap (λ ys. f x ∷ ys) (take_change f g h e n i xs)

set_change : {A : Type 0} (xs : List A) (i : ℕ) (y : A) → slice_set xs i y ≡ change_at xs i (λ _. y)
set_change [] i y = refl
set_change (x ∷ xs) zero y = refl
set_change (x ∷ xs) (suc i) y = ap (λ ys. x ∷ ys) (set_change xs i y)

-- changes that come to the same at the item
change_same : {A : Type 0} (d : A) (f g : A → A) (xs : List A) (i : ℕ) → f (get_or xs i d) ≡ g (get_or xs i d) → change_at xs i f ≡ change_at xs i g
change_same d f g [] i e = refl
change_same d f g (x ∷ xs) zero e = ap (λ y. y ∷ xs) e
change_same d f g (x ∷ xs) (suc i) e = ap (λ ys. x ∷ ys) (change_same d f g xs i e)

-- the claims of the machine's lanes after one is set
pub claims_set : (m : MachineSpec) (d : Desk) (directory : List Claims) (a : Actor) (c : Claim) → claims_of m (record { directory = directory; lanes = with_claim_at d.lanes a c }) ≡ change_at (claims_of m d) a.core.0 (λ lanes. change_at lanes a.lane.0 (λ _. seen_claim c))
claims_set m d directory a c =
    take_change (λ own. map seen_claim (take (m.buffer + 1) own.0)) (λ (own : OwnClaims). record { 0 = slice_set own.0 a.lane.0 c }) (λ lanes. change_at lanes a.lane.0 (λ _. seen_claim c))
    (λ own. ap (λ xs. map seen_claim (take (m.buffer + 1) xs)) (set_change own.0 a.lane.0 c) ∙ take_change seen_claim (λ _. c) (λ _. seen_claim c) (λ x. refl) (m.buffer + 1) a.lane.0 own.0)
    m.cores a.core.0 d.lanes

leave_seen : (kind : EventKind) (c : Claim) → seen_claim (claim_after kind c) ≡ after_leave kind (seen_claim c)
leave_seen (event.Leave seq) claim.Free = refl
leave_seen (event.Leave seq) (claim.Announced entry) = refl
leave_seen (event.Leave seq) (claim.Held entry mode) = refl
leave_seen (event.Leave seq) (claim.Spent entry mode) = refl
leave_seen _ c = refl

-- and after an event of its lane
pub claims_left : (m : MachineSpec) (d : Desk) (a : Actor) (kind : EventKind) → claims_of m (record d { lanes = with_claim_at d.lanes a (claim_after kind (claim_in d a)) }) ≡ change_at (claims_of m d) a.core.0 (λ lanes. change_at lanes a.lane.0 (after_leave kind))
claims_left m d a kind =
    ap (λ xs. map (λ own. map seen_claim (take (m.buffer + 1) own.0)) (take m.cores xs)) (change_same none_held (λ (own : OwnClaims). record { 0 = slice_set own.0 a.lane.0 (claim_after kind (claim_in d a)) }) (λ (own : OwnClaims). record { 0 = change_at own.0 a.lane.0 (claim_after kind) }) d.lanes a.core.0
    (ap (λ xs. record { 0 = xs }) (set_change (get_or d.lanes a.core.0 none_held).0 a.lane.0 (claim_after kind (claim_in d a)) ∙ change_same claim.Free (λ _. claim_after kind (claim_in d a)) (claim_after kind) (get_or d.lanes a.core.0 none_held).0 a.lane.0 refl)))
    ∙ take_change (λ own. map seen_claim (take (m.buffer + 1) own.0)) (λ (own : OwnClaims). record { 0 = change_at own.0 a.lane.0 (claim_after kind) }) (λ lanes. change_at lanes a.lane.0 (after_leave kind))
    (λ own. take_change seen_claim (claim_after kind) (after_leave kind) (leave_seen kind) (m.buffer + 1) a.lane.0 own.0) m.cores a.core.0 d.lanes

-- ---- what a lane has

free_at : (n l : ℕ) → get_or (replicate n claim.Free) l claim.Free ≡ claim.Free
free_at zero l = refl
free_at (suc n) zero = refl
free_at (suc n) (suc l) = free_at n l

own_seen : (n l : ℕ) (xs : List Claim) → l < n → get_or (map seen_claim (take n xs)) l Free ≡ seen_claim (get_or xs l claim.Free)
own_seen zero l xs h = absurd (omega (arith, h))
own_seen (suc n) l [] h = refl
own_seen (suc n) zero (x ∷ xs) h = refl
own_seen (suc n) (suc l) (x ∷ xs) h = own_seen n l xs (omega (arith, h))

lane_seen : (b l n i : ℕ) (xs : List OwnClaims) → l < b → i < n → get_or (list_at (map (λ own. map seen_claim (take b own.0)) (take n xs)) i) l Free ≡ seen_claim (get_or (get_or xs i none_held).0 l claim.Free)
lane_seen b l zero i xs h k = absurd (omega (arith, k))
lane_seen b l (suc n) i [] h k = sym (ap seen_claim (free_at 5 l))
lane_seen b l (suc n) zero (x ∷ xs) h k = own_seen b l x.0 h
lane_seen b l (suc n) (suc i) (x ∷ xs) h k = lane_seen b l n i xs h (omega (arith, k))

pub claim_seen : (h : History) (d : Desk) (a : Actor) (turns stalls : ℕ) → IsLaneOf h.machine a.core a.lane → claim_of (run_at h d turns stalls) a ≡ seen_claim (claim_in d a)
claim_seen h d a turns stalls lane = lane_seen (h.machine.buffer + 1) a.lane.0 h.machine.cores a.core.0 d.lanes (let last = lane.last in omega (arith, last)) lane.core

-- ---- a PEI that waits for its entry

pub entry_found : (m : MachineSpec) (first : Option PeiId) (o : Option PeiLook) (e : ℕ) (k : Mode) → entry_needed m first o ≡ Some (e, k) → (p : PeiLook) × (o ≡ Some p) × (entry_of m p.block ≡ e) × (mode_of p.op ≡ k)
entry_found m first None e k h = absurd (cc h)
entry_found m first (Some p) e k h = by (is_pei first p.id) h
  where
    pairs : (x y : ℕ × Mode) → Some x ≡ Some y → x ≡ y
    pairs x y q = cc

    by : (b : Bool) → if◌then◌else◌ {A = Option (ℕ × Mode)} b (Some (entry_of m p.block, mode_of p.op)) None ≡ Some (e, k) → (q : PeiLook) × (Some p ≡ Some q) × (entry_of m q.block ≡ e) × (mode_of q.op ≡ k)
    by false q = absurd (cc q)
    by true q =
        let same = pairs (entry_of m p.block, mode_of p.op) (e, k) q
        in (p, refl, ap (λ (x : ℕ × Mode). x.0) same, ap (λ (x : ℕ × Mode). x.1) same)

-- ---- the definition's step

unspent_step : (t : Table) (m : MachineSpec) (r : Run) (a : Actor) (o : Option PeiLook) (c : Claim) → IsUnspent c → lane_step t m r a o (seen_claim c) ≡ claiming t m r a o (t.at_lane r.journal false o)
unspent_step t m r a o claim.Free h = refl
unspent_step t m r a o (claim.Announced entry) h = refl
unspent_step t m r a o (claim.Held entry mode) h = refl
unspent_step t m r a o (claim.Spent entry mode) h = absurd h

other_row : (t : Table) (m : MachineSpec) (r : Run) (a : Actor) (o : Option PeiLook) (row : Row) → (row ≡ Stalls stall.NeedsGrant → ⊥) → claiming t m r a o row ≡ by_row r a row
other_row t m r a o (Makes kind) n = refl
other_row t m r a o (Stalls stall.NeedsGrant) n = absurd (n refl)
other_row t m r a o (Stalls _) n = refl

-- an event of an actor, told to the desk
pub event_noted : (h : History) (d : Desk) (a : Actor) (turns stalls : ℕ) (e : Event) (f : Desk) → e.actor ≡ a → f ≡ record d { lanes = with_claim_at d.lanes a (claim_after e.kind (claim_in d a)) } → run_at (with_made h (Some e)) f (turns + 1) stalls ≡ with_lane_event (run_at h d turns stalls) a e.kind
event_noted h d a turns stalls e f actor is =
    ap (λ x. run_at (with_made h (Some e)) x (turns + 1) stalls) is
    ∙ ap (λ xs. record { journal = h.journal ++ e ∷ []; entries = d.directory; claims = xs; turns = turns + 1; stalls = stalls }) (claims_left h.machine d a e.kind)
    ∙ ap (λ (b : Actor). record (with_lane_event (run_at h d turns stalls) a e.kind) { journal = h.journal ++ record { actor = b; kind = e.kind } ∷ [] }) actor

module _ (h : History) (d : Desk) (a : Actor) (turns stalls : ℕ) (lane : IsLaneOf h.machine a.core a.lane) where
  abbrev pub r : Run
  r = run_at h d turns stalls

  abbrev pub t : Table
  t = whole_table h.machine h.image

  abbrev pub o : Option PeiLook
  o = look_in (state_of h) a.core a.lane

  abbrev pub next : Run
  next = peis_step t h.machine r a o

  by_claim : next ≡ lane_step t h.machine r a o (seen_claim (claim_in d a))
  by_claim = ap (lane_step t h.machine r a o) (claim_seen h d a turns stalls lane)

  -- a claim whose PEI has left
  pub spent_goes : (e : ℕ) (k : Mode) (f : Desk) → claim_in d a ≡ claim.Spent e k → f ≡ stepped d a e (λ c. without_claim c k) claim.Free → GoesOn h d a turns stalls step.Claimed h f
  spent_goes e k f has is =
      record {
        made = refl;
        own = tt;
        step =
            ap (λ x. run_at h x (turns + 1) (stalls + 0)) is
            ∙ ap (λ n. run_at h (stepped d a e (λ c. without_claim c k) claim.Free) (turns + 1) n) (none_more stalls)
            ∙ ap (λ xs. record { journal = h.journal; entries = change_at d.directory e (λ c. without_claim c k); claims = xs; turns = turns + 1; stalls = stalls }) (claims_set h.machine d (change_at d.directory e (λ c. without_claim c k)) a claim.Free)
            ∙ sym (by_claim ∙ ap (λ c. lane_step t h.machine r a o (seen_claim c)) has);
      }
    where
      none_more : (n : ℕ) → n + 0 ≡ n
      none_more n = omega arith

  unspent : IsUnspent (claim_in d a) → next ≡ claiming t h.machine r a o (lane_row_of h false a.core a.lane)
  unspent kept = by_claim ∙ unspent_step t h.machine r a o (claim_in d a) kept

  by_other : IsUnspent (claim_in d a) → (row : Row) → lane_row_of h false a.core a.lane ≡ row → (row ≡ Stalls stall.NeedsGrant → ⊥) → next ≡ by_row r a row
  by_other kept row is n = unspent kept ∙ ap (claiming t h.machine r a o) is ∙ other_row t h.machine r a o row n

  zero_more : (n : ℕ) → n + 0 ≡ n
  zero_more n = omega arith

  -- an event of its lane
  event_run : (e : Event) (f : Desk) → e.actor ≡ a → f ≡ record d { lanes = with_claim_at d.lanes a (claim_after e.kind (claim_in d a)) } → run_at (with_made h (Some e)) f (turns + 1) (stalls + 0) ≡ with_lane_event r a e.kind
  event_run e f actor is = ap (run_at (with_made h (Some e)) f (turns + 1)) (zero_more stalls) ∙ event_noted h d a turns stalls e f actor is

  pub event_goes : IsUnspent (claim_in d a) → (e : Event) (g : History) (f : Desk) → lane_row_of h false a.core a.lane ≡ Makes e.kind → e.actor ≡ a → g ≡ with_made h (Some e) → f ≡ record d { lanes = with_claim_at d.lanes a (claim_after e.kind (claim_in d a)) } → GoesOn h d a turns stalls (step.Made e) g f
  event_goes kept e g f row actor made is =
      record {
        made = made;
        own = actor;
        step = ap (λ x. run_at x f (turns + 1) (stalls + 0)) made ∙ event_run e f actor is ∙ sym (by_other kept (Makes e.kind) row (λ k. cc k));
      }

  pub stall_goes : IsUnspent (claim_in d a) → (cause : StallCause) (g : History) → lane_row_of h false a.core a.lane ≡ Stalls cause → (cause ≡ stall.NeedsGrant → ⊥) → g ≡ h → GoesOn h d a turns stalls step.Waited g d
  stall_goes kept cause g row n same =
      record {
        made = same;
        own = tt;
        step = ap (λ x. run_at x d (turns + 1) (stalls + 1)) same ∙ sym (by_other kept (Stalls cause) row (λ k. n (causes cause stall.NeedsGrant k)));
      }
    where
      causes : (x y : StallCause) → Stalls x ≡ Stalls y → x ≡ y
      causes x y k = cc

  -- ---- toward its entry

  abbrev pub toward : PeiLook → ℕ → Mode → LaneClaim → Run
  toward p e k c = toward_enter t r a p e k c

  by_grant : IsUnspent (claim_in d a) → lane_row_of h false a.core a.lane ≡ Stalls stall.NeedsGrant → (e : ℕ) (k : Mode) → needs_of h a.core a.lane ≡ Some (e, k) → (p : PeiLook) × (o ≡ Some p) × (next ≡ toward p e k (seen_claim (claim_in d a)))
  by_grant kept row e k needs =
      let found = entry_found h.machine (first_unentered (state_of h) a.core) o e k needs
      in let p = found.0
      in (
        p,
        found.1,
        unspent kept ∙ ap (claiming t h.machine r a o) row ∙ ap (toward_enter_of t h.machine r a) found.1
            ∙ ap (λ x. toward p x (mode_of p.op) (claim_of r a)) found.2
            ∙ ap (λ x. toward p e x (claim_of r a)) found.3
            ∙ ap (toward p e k) (claim_seen h d a turns stalls lane),
      )

  pub announce_goes : (e : ℕ) (f : Desk) → lane_row_of h false a.core a.lane ≡ Stalls stall.NeedsGrant → needs_of h a.core a.lane ≡ Some (e, mode.Writer) → claim_in d a ≡ claim.Free → f ≡ stepped d a e with_announcement (claim.Announced e) → GoesOn h d a turns stalls step.Claimed h f
  announce_goes e f row needs has is =
      let kept : IsUnspent (claim_in d a) = subst IsUnspent (sym has) tt
      in let found = by_grant kept row e mode.Writer needs
      in record {
        made = refl;
        own = tt;
        step =
            ap (λ x. run_at h x (turns + 1) (stalls + 0)) is
            ∙ ap (λ n. run_at h (stepped d a e with_announcement (claim.Announced e)) (turns + 1) n) (zero_more stalls)
            ∙ ap (λ xs. record { journal = h.journal; entries = change_at d.directory e with_announcement; claims = xs; turns = turns + 1; stalls = stalls }) (claims_set h.machine d (change_at d.directory e with_announcement) a (claim.Announced e))
            ∙ sym (found.2 ∙ ap (λ c. toward found.0 e mode.Writer (seen_claim c)) has);
      }

  -- a claim that is tried
  tried : (e : ℕ) (k : Mode) (taken : Step) (f : Desk) → Tries d a e k taken f → run_at h f (turns + 1) (stalls + waited taken) ≡ after_try r a e k
  tried e k step.Claimed f h1 =
      ap (λ x. run_at h x (turns + 1) (stalls + 0)) h1.1
      ∙ ap (λ n. run_at h (stepped d a e (λ c. with_claim c k) (claim.Held e k)) (turns + 1) n) (zero_more stalls)
      ∙ ap (λ xs. record { journal = h.journal; entries = change_at d.directory e (λ c. with_claim c k); claims = xs; turns = turns + 1; stalls = stalls }) (claims_set h.machine d (change_at d.directory e (λ c. with_claim c k)) a (claim.Held e k))
      ∙ sym (ap (λ (b : Bool). if b then with_step r a e (λ c. with_claim c k) (Held e k) else after_stall r) h1.0)
  tried e k step.Waited f h1 =
      ap (λ x. run_at h x (turns + 1) (stalls + 1)) h1.1 ∙ sym (ap (λ (b : Bool). if b then with_step r a e (λ c. with_claim c k) (Held e k) else after_stall r) h1.0)
  tried e k (step.Made x) f h1 = absurd h1

  nothing_made : (e : ℕ) (k : Mode) (taken : Step) (f : Desk) → Tries d a e k taken f → h ≡ with_made h (made_in taken)
  nothing_made e k step.Claimed f h1 = refl
  nothing_made e k step.Waited f h1 = refl
  nothing_made e k (step.Made x) f h1 = absurd h1

  nobody : (e : ℕ) (k : Mode) (taken : Step) (f : Desk) → Tries d a e k taken f → IsOwn a taken
  nobody e k step.Claimed f h1 = tt
  nobody e k step.Waited f h1 = tt
  nobody e k (step.Made x) f h1 = absurd h1

  pub reader_goes : (e : ℕ) (taken : Step) (f : Desk) → lane_row_of h false a.core a.lane ≡ Stalls stall.NeedsGrant → needs_of h a.core a.lane ≡ Some (e, mode.Reader) → claim_in d a ≡ claim.Free → Tries d a e mode.Reader taken f → GoesOn h d a turns stalls taken h f
  reader_goes e taken f row needs has tries =
      let found = by_grant (subst IsUnspent (sym has) tt) row e mode.Reader needs
      in record { made = nothing_made e mode.Reader taken f tries; own = nobody e mode.Reader taken f tries; step = tried e mode.Reader taken f tries ∙ sym (found.2 ∙ ap (λ c. toward found.0 e mode.Reader (seen_claim c)) has) }

  announced_step : (p : PeiLook) (e n : ℕ) (k : Mode) → toward p e k (Announced n) ≡ after_try r a e k
  announced_step p e n mode.Reader = refl
  announced_step p e n mode.Writer = refl

  pub announced_goes : (e n : ℕ) (k : Mode) (taken : Step) (f : Desk) → lane_row_of h false a.core a.lane ≡ Stalls stall.NeedsGrant → needs_of h a.core a.lane ≡ Some (e, k) → claim_in d a ≡ claim.Announced n → Tries d a e k taken f → GoesOn h d a turns stalls taken h f
  announced_goes e n k taken f row needs has tries =
      let found = by_grant (subst IsUnspent (sym has) tt) row e k needs
      in record { made = nothing_made e k taken f tries; own = nobody e k taken f tries; step = tried e k taken f tries ∙ sym (found.2 ∙ ap (λ c. toward found.0 e k (seen_claim c)) has ∙ announced_step found.0 e n k) }

  held_step : (p : PeiLook) (e n : ℕ) (k l : Mode) → toward p e k (Held n l) ≡ by_row r a (lane_row h.machine (state_of h) (content_of h) true (Some p))
  held_step p e n mode.Reader l = refl
  held_step p e n mode.Writer l = refl

  -- a PEI that enters under its claim
  pub enter_goes : (e n : ℕ) (k l : Mode) (taken : Step) (g : History) (f : Desk) → lane_row_of h false a.core a.lane ≡ Stalls stall.NeedsGrant → needs_of h a.core a.lane ≡ Some (e, k) → claim_in d a ≡ claim.Held n l → Enters h d a taken g f → GoesOn h d a turns stalls taken g f
  enter_goes e n k l taken g f row needs has took = by taken took
    where
      after : next ≡ by_row r a (lane_row_of h true a.core a.lane)
      after =
          let found = by_grant (subst IsUnspent (sym has) tt) row e k needs
          in found.2 ∙ ap (λ c. toward found.0 e k (seen_claim c)) has ∙ held_step found.0 e n k l ∙ ap (λ x. by_row r a (lane_row h.machine (state_of h) (content_of h) true x)) (sym found.1)

      by : (s : Step) → Took h d a (lane_row_of h true a.core a.lane) s g f → GoesOn h d a turns stalls s g f
      by (step.Made x) q = record { made = q.2; own = q.1; step = ap (λ y. run_at y f (turns + 1) (stalls + 0)) q.2 ∙ event_run x f q.1 q.3 ∙ sym (after ∙ ap (by_row r a) q.0) }
      by step.Waited q = record { made = q.1; own = tt; step = ap (λ y. run_at y f (turns + 1) (stalls + 1)) q.1 ∙ ap (λ y. run_at h y (turns + 1) (stalls + 1)) q.2 ∙ sym (after ∙ ap (by_row r a) q.0.1) }
      by step.Claimed q = absurd q
