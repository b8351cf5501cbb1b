-- A lane's claim after a step on the directory.
use Rattle.std.proofs.Common.{◌≡◌, ◌≢◌, ◌⊎◌, inl, inr, ℕ, zero, suc, ◌+◌, ◌-◌, ◌<◌, ◌≤◌, Bool, true, false, List, [], ◌∷◌, length, Option, Some, None, is_some, slice_index_or, slice_set, refl, sym, ◌∙◌, ap, subst, arith}
use Rattle.std.proofs.lemmas.List.{length-set}
use Rattle.std.proofs.lemmas.Option.{same_Some}
use mathlib.Core.Option.{some}
use lib.ListN.{get_elem?}
use Rattle.atomic_table.specs.Seated.{TableId}
use Rattle.pei_types.specs.declared.calls.EndKind.{EndKind}
use Rattle.pei_types.specs.declared.machines.MachineSpec.{MachineSpec}
use Rattle.pei_types.specs.declared.operations.Mode.{Mode}
use Rattle.pei_types.specs.declared.operations.Mode.TheVariants.{Reader, Writer}
use Rattle.pei_types.specs.Program.{Listing, Contents}
use Rattle.bank_laws.specs.Logs.{IsFront, Rises}
use Rattle.core_exec.specs.CoreView.{Standing}
use Rattle.shared_table.specs.declared.claims.Active.{Active}
use Rattle.shared_table.specs.declared.claims.Claim.{Claim}
use Rattle.shared_table.specs.declared.claims.Claim.TheVariants.{Free, Announced, Held}
use Rattle.shared_table.specs.declared.claims.Knowledge.{Knowledge}
use Rattle.shared_table.specs.Claims.{before_grant, with_claim}
use Rattle.shared_table.specs.Own.{Has, IsHolding, IsIdle}
use Rattle.shared_table.specs.declared.table.Grant.{Grant}
use Rattle.shared_table.specs.declared.table.Grant.TheVariants.{Busy as lost, Held as won}
use Rattle.shared_table.specs.Seats.{Answers}
use Rattle.shared_table.specs.Parts.{active, claims, filled, lane_changed, look_made, misses, seen}
use Rattle.shared_table.specs.Place.{SeatView}
use Rattle.shared_table.proofs.Lanes.{has_put}
use Rattle.host_run.specs.declared.cores.CoreRun.{CoreRun}
use Rattle.host_run.specs.declared.own_peis.OwnPei.{OwnPei}
use Rattle.host_run.specs.declared.own_peis.OwnPeis.{OwnPeis}
use Rattle.host_run.specs.ThreadInvariant.{HasFollowed, IsAtRest, IsDone, IsFull, IsInTurn, IsLetGo, KeepsUp, own_end}
use Rattle.host_run.specs.Laws.{TurnLaws}
use Rattle.host_run.specs.Own.{FitsPei, IsActiveOf, KeepsActives, KeepsClaims, KeepsLane, KeepsPeis, entry_of, is_spent, pei_in}
use Rattle.host_run.proofs.LanesAfter.{lane_apart, lane_set, one_claim, same_number}
use Rattle.host_run.proofs.Seats.{SeesMore, actives_on, ended_on, followed_on, keeps_on, peis_on, taken_on}
use Rattle.host_run.proofs.SeatSteps.{same_front}

-- ---- one lane's claim

get_set_else : {A : Type 0} (xs : List A) (i j : ℕ) (y x : A) → j ≢ i → get_elem? xs j ≡ some x → get_elem? (slice_set xs i y) j ≡ some x
get_set_else [] i j y x apart h = h
get_set_else (z ∷ zs) zero zero y x apart h = absurd (apart refl)
get_set_else (z ∷ zs) zero (suc j) y x apart h = h
get_set_else (z ∷ zs) (suc i) zero y x apart h = h
get_set_else (z ∷ zs) (suc i) (suc j) y x apart h = get_set_else zs i j y x (λ e. apart (ap suc e)) h

has_else : (v : Knowledge) (lane n : ℕ) (c d : Claim) → 1 ≤ lane → n ≢ lane → Has v.claims n c → Has (with_claim v (lane - 1) d).claims n c
has_else v lane n c d low apart has = (has.0, get_set_else v.claims (lane - 1) (n - 1) d c (λ e. apart (let one = has.0 in omega (arith, e, low, one))) has.1)

-- all lanes, where one has got a claim
pub claims_next : (m : MachineSpec) (s : SeatView) (o n : OwnPeis) (lane : ℕ) (c : Claim) → 1 ≤ lane → lane ≤ 4 → KeepsClaims m s o → KeepsLane m c (is_spent n lane) (pei_in n lane) → ((l : ℕ) → 1 ≤ l → l ≢ lane → is_spent n l ≡ is_spent o l) → ((l : ℕ) → l ≢ lane → pei_in n l ≡ pei_in o l) → KeepsClaims m (lane_changed s lane c) n
claims_next m s o n lane c low high k new spent peis l one four = by (same_number l lane)
  where
    by : (l ≡ lane) ⊎ (l ≢ lane) → (d : Claim) × Has (claims (lane_changed s lane c)) l d × KeepsLane m d (is_spent n l) (pei_in n l)
    by (inl same) =
        let has = k lane low high
        in (c, subst (λ j. Has (claims (lane_changed s lane c)) j c) (sym same) (has_put s.knows lane has.0 c has.1), subst (λ j. KeepsLane m c (is_spent n j) (pei_in n j)) (sym same) new)
    by (inr apart) =
        let has = k l one four
        in (has.0, has_else s.knows lane l has.0 c low apart has.1, subst (λ b. KeepsLane m has.0 b (pei_in n l)) (sym (spent l one apart)) (subst (KeepsLane m has.0 (is_spent o l)) (sym (peis l apart)) has.2))

-- ---- seats

changed_more : (s : SeatView) (lane : ℕ) (c : Claim) → ((k : ℕ) → Rises (seen k s)) → SeesMore s (lane_changed s lane c)
changed_more s lane c all = record { core = refl; mine = refl; cleared = λ f i k on e. (i, e); fence = refl; active = λ b. refl; front = λ k. same_front (seen k s); rises = all }

looked_more : (s : SeatView) (e a b : ℕ) → ((k : ℕ) → Rises (seen k s)) → SeesMore s (look_made s e a b)
looked_more s e a b all = record { core = refl; mine = refl; cleared = λ f i k on e. (i, e); fence = refl; active = λ b. refl; front = λ k. same_front (seen k s); rises = all }

-- an active PEI of the core is not in a lane whose PEI has not entered
pub idle_lane : (m : MachineSpec) (s : SeatView) (o : OwnPeis) (lane : ℕ) → KeepsActives m s o → ((q : OwnPei) → pei_in o lane ≡ Some q → q.entered ≡ false) → (b : ℕ) → IsIdle (active b s) lane
idle_lane m s o lane k none b i a at same =
    let q = k b i a at
    in cc (sym q.2 ∙ none q.0 (ap (pei_in o) (sym same) ∙ q.1))

spent_waits : (m : MachineSpec) (c : Claim) (o : Option OwnPei) (q : OwnPei) → KeepsLane m c true o → o ≡ Some q → q.entered ≡ false
spent_waits m (Held e k) None q h is = absurd (cc is)
spent_waits m (Held e k) (Some p) q h is = subst (λ (x : OwnPei). x.entered ≡ false) (same_Some p q is) h
spent_waits m Free o q h is = absurd h
spent_waits m (Announced e) o q h is = absurd h

spent_holds : (m : MachineSpec) (xs : List Claim) (lane : ℕ) (c : Claim) (o : Option OwnPei) → Has xs lane c → KeepsLane m c true o → IsHolding xs lane
spent_holds m xs lane (Held e k) o has h = (e, k, has)
spent_holds m xs lane Free o has h = absurd h
spent_holds m xs lane (Announced e) o has h = absurd h

-- a claim whose PEI has left, once it is released
freed_lane : (m : MachineSpec) (c : Claim) (o : Option OwnPei) → KeepsLane m c true o → KeepsLane m Free false o
freed_lane m (Held e k) None h = refl
freed_lane m (Held e k) (Some p) h = h
freed_lane m Free o h = absurd h
freed_lane m (Announced e) o h = absurd h

module _ (laws : TurnLaws) (p : Listing) (m : MachineSpec) (image : Contents) (t : TableId) (s u : SeatView) where
  -- ---- a claim that is released, since its PEI has left

  module _ (o : OwnPeis) (lane : ℕ) (low : 1 ≤ lane) (high : lane ≤ 4) (spent : is_spent o lane ≡ true) where
    abbrev pub once_freed : OwnPeis
    once_freed = record o { spent = slice_set o.spent (lane - 1) false }

    kept_lane : KeepsClaims m s o → (c : Claim) × Has (claims s) lane c × KeepsLane m c true (pei_in o lane)
    kept_lane k = let has = k lane low high in (has.0, has.1, subst (λ b. KeepsLane m has.0 b (pei_in o lane)) spent has.2)

    pub spent_is_held : KeepsClaims m s o → IsHolding (claims s) lane
    spent_is_held k = let has = kept_lane k in spent_holds m (claims s) lane has.0 (pei_in o lane) has.1 has.2

    pub spent_is_idle : KeepsClaims m s o → KeepsActives m s o → (b : ℕ) → IsIdle (active b s) lane
    spent_is_idle k a = let has = kept_lane k in idle_lane m s o lane a (λ q is. spent_waits m has.0 (pei_in o lane) q has.2 is)

    freed_claims : length o.spent ≡ 4 → KeepsClaims m s o → KeepsClaims m (lane_changed s lane Free) once_freed
    freed_claims four k =
        let has = kept_lane k
        in claims_next m s o once_freed lane Free low high k
        (subst (λ b. KeepsLane m Free b (pei_in o lane)) (sym (lane_set o.spent false false lane lane four low high refl)) (freed_lane m has.0 (pei_in o lane) has.2))
        (λ l one apart. lane_apart o.spent false false lane l low one apart)
        (λ l apart. refl)

    pub freed_turn : u ≡ lane_changed s lane Free → (run after : CoreRun) → run.own ≡ o → after.core ≡ run.core → after.end ≡ run.end → after.own ≡ once_freed → IsInTurn p m image t s run → IsInTurn p m image t u after
    freed_turn is run after was core end now h = record {
      rest = subst (IsAtRest t) (sym is) (record { table = h.rest.table; slot = h.rest.slot; stamp = h.rest.stamp });
      missed = subst (λ (v : SeatView). misses v ≡ 0) (sym is) h.missed;
      keeps =
          subst (λ v. KeepsUp p m image v after.core after.own after.end) (sym is)
          (subst (λ x. KeepsUp p m image (lane_changed s lane Free) x after.own after.end) (sym core)
          (subst (λ x. KeepsUp p m image (lane_changed s lane Free) run.core x after.end) (sym now)
          (subst (λ x. KeepsUp p m image (lane_changed s lane Free) run.core once_freed x) (sym end) kept)));
    }
      where
        before : KeepsUp p m image s run.core o run.end
        before = subst (λ x. KeepsUp p m image s run.core x run.end) was h.keeps

        more : SeesMore s (lane_changed s lane Free)
        more = changed_more s lane Free before.followed.seen_rise

        peis : KeepsPeis m (lane_changed s lane Free) o
        peis = peis_on laws p m image s (lane_changed s lane Free) more o before.peis

        kept : KeepsUp p m image (lane_changed s lane Free) run.core once_freed run.end
        kept = record {
          followed = followed_on laws p m image s (lane_changed s lane Free) more before.followed;
          taken_in = taken_on laws p m image s (lane_changed s lane Free) more run.core before.taken_in;
          ended = ended_on laws p m image s (lane_changed s lane Free) more run.end before.ended;
          peis = record {
            kept = record { events = peis.kept.events; lanes = peis.kept.lanes; issues = peis.kept.issues; fence = peis.kept.fence };
            four = length-set o.spent (lane - 1) false ∙ peis.four;
            fence_is = peis.fence_is;
            unfenced = peis.unfenced;
            few = peis.few;
            cleared_are = peis.cleared_are;
          };
          actives = actives_on laws p m image s (lane_changed s lane Free) more o before.actives;
          lanes = freed_claims before.peis.four before.lanes;
        }

  -- ---- a claim that is announced or held, or a try that was busy

  claim_turn : (c : Claim) (lane : ℕ) (v : SeatView) → SeesMore s v → claims v ≡ claims (lane_changed s lane c) → IsAtRest t v → misses v ≡ misses s → u ≡ v → (run : CoreRun) → 1 ≤ lane → lane ≤ 4 → KeepsLane m c (is_spent run.own lane) (pei_in run.own lane) → IsInTurn p m image t s run → IsInTurn p m image t u run
  claim_turn c lane v more same rest miss is run low high fits h = record {
    rest = subst (IsAtRest t) (sym is) rest;
    missed = subst (λ (w : SeatView). misses w ≡ 0) (sym is) (miss ∙ h.missed);
    keeps =
        subst (λ w. KeepsUp p m image w run.core run.own run.end) (sym is)
        (record {
          followed = followed_on laws p m image s v more h.keeps.followed;
          taken_in = taken_on laws p m image s v more run.core h.keeps.taken_in;
          ended = ended_on laws p m image s v more run.end h.keeps.ended;
          peis = peis_on laws p m image s v more run.own h.keeps.peis;
          actives = actives_on laws p m image s v more run.own h.keeps.actives;
          lanes = λ l one four.
              let has = claims_next m s run.own run.own lane c low high h.keeps.lanes fits (λ l one apart. refl) (λ l apart. refl) l one four
              in (has.0, subst (λ (xs : List Claim). Has xs l has.0) (sym same) has.1, has.2);
        });
  }

  pub announced_turn : (run : CoreRun) (lane : ℕ) (pei : OwnPei) → 1 ≤ lane → lane ≤ 4 → is_spent run.own lane ≡ false → pei_in run.own lane ≡ Some pei → pei.entered ≡ false → pei.mode ≡ Writer → u ≡ lane_changed s lane (Announced (entry_of m pei)) → IsInTurn p m image t s run → IsInTurn p m image t u run
  announced_turn run lane pei low high spent there waits mode is h =
      claim_turn (Announced (entry_of m pei)) lane (lane_changed s lane (Announced (entry_of m pei))) (changed_more s lane (Announced (entry_of m pei)) h.keeps.followed.seen_rise) refl
      (record { table = h.rest.table; slot = h.rest.slot; stamp = h.rest.stamp }) refl is run low high
      (rw (spent, there) (waits, refl, mode)) h

  pub held_turn : (run : CoreRun) (lane n : ℕ) (pei : OwnPei) → 1 ≤ lane → lane ≤ 4 → is_spent run.own lane ≡ false → pei_in run.own lane ≡ Some pei → u ≡ lane_changed (look_made s (entry_of m pei) n n) lane (Held (entry_of m pei) pei.mode) → IsInTurn p m image t s run → IsInTurn p m image t u run
  held_turn run lane n pei low high spent there is h =
      claim_turn (Held (entry_of m pei) pei.mode) lane (lane_changed (look_made s (entry_of m pei) n n) lane (Held (entry_of m pei) pei.mode))
      (record { core = refl; mine = refl; cleared = λ f i k on e. (i, e); fence = refl; active = λ b. refl; front = λ k. same_front (seen k s); rises = h.keeps.followed.seen_rise }) refl
      (record { table = h.rest.table; slot = h.rest.slot; stamp = h.rest.stamp }) refl is run low high
      (rw (spent, there) (refl, refl)) h

  pub held_answer : (run : CoreRun) (lane e : ℕ) (pei : OwnPei) → 1 ≤ lane → lane ≤ 4 → is_spent run.own lane ≡ false → pei_in run.own lane ≡ Some pei → e ≡ entry_of m pei → (r : Grant) → r ≡ won → Answers s lane e pei.mode r u → IsInTurn p m image t s run → IsInTurn p m image t u run
  held_answer run lane e pei low high spent there entry r is answer h =
      let a = subst (λ x. Answers s lane e pei.mode x u) is answer
      in held_turn run lane a.0 pei low high spent there (a.2 ∙ ap (λ n. lane_changed (look_made s n a.0 a.0) lane (Held n pei.mode)) entry) h

  pub busy_turn : (run : CoreRun) (e a b : ℕ) → u ≡ look_made s e a b → IsInTurn p m image t s run → IsInTurn p m image t u run
  busy_turn run e a b is h = record {
    rest = subst (IsAtRest t) (sym is) (record { table = h.rest.table; slot = h.rest.slot; stamp = h.rest.stamp });
    missed = subst (λ (w : SeatView). misses w ≡ 0) (sym is) h.missed;
    keeps = subst (λ w. KeepsUp p m image w run.core run.own run.end) (sym is) (keeps_on laws p m image s (look_made s e a b) (looked_more s e a b h.keeps.followed.seen_rise) run.core run.own run.end refl h.keeps);
  }

  pub busy_answer : (run : CoreRun) (lane e a b : ℕ) (k : Mode) (r : Grant) → r ≡ lost a b → Answers s lane e k r u → IsInTurn p m image t s run → IsInTurn p m image t u run
  busy_answer run lane e a b k r is answer h = busy_turn run e a b (subst (λ x. Answers s lane e k x u) is answer).3 h

  -- ---- claims that are given back where no stamp was left

  pub let_go : (lane : ℕ) (run : CoreRun) → u ≡ lane_changed s lane Free → IsLetGo p m image t s run → IsLetGo p m image t u run
  let_go lane run is h = record {
    rest = subst (IsAtRest t) (sym is) (record { table = h.rest.table; slot = h.rest.slot; stamp = h.rest.stamp });
    found = subst (λ (w : SeatView). filled w ≡ true) (sym is) h.found;
    followed = subst (HasFollowed p m image) (sym is) (followed_on laws p m image s (lane_changed s lane Free) (changed_more s lane Free h.followed.seen_rise) h.followed);
    ended = subst (λ w. run.end ≡ own_end w) (sym is) (ended_on laws p m image s (lane_changed s lane Free) (changed_more s lane Free h.followed.seen_rise) run.end h.ended);
    actives = subst (λ w. KeepsActives m w run.own) (sym is) (actives_on laws p m image s (lane_changed s lane Free) (changed_more s lane Free h.followed.seen_rise) run.own h.actives);
  }

-- ---- what a lane has that tries its entry

pub before_try : (m : MachineSpec) (c : Claim) (pei : OwnPei) → KeepsLane m c false (Some pei) → ((e : ℕ) (k : Mode) → c ≢ Held e k) → (c ≡ Free → pei.mode ≡ Reader) → c ≡ before_grant (entry_of m pei) pei.mode
before_try m Free pei h held reads = sym (ap (before_grant (entry_of m pei)) (reads refl))
before_try m (Announced e) pei h held reads = ap Announced h.1 ∙ sym (ap (before_grant (entry_of m pei)) h.2)
before_try m (Held e k) pei h held reads = absurd (held e k refl)

-- an announced claim is what its PEI tries with
pub announced_try : (m : MachineSpec) (s : SeatView) (o : OwnPeis) (lane e : ℕ) (pei : OwnPei) → 1 ≤ lane → lane ≤ 4 → KeepsClaims m s o → is_spent o lane ≡ false → pei_in o lane ≡ Some pei → Has (claims s) lane (Announced e) → Has (claims s) lane (before_grant (entry_of m pei) pei.mode)
announced_try m s o lane e pei low high k spent there has =
    let kept = k lane low high
    in let same : kept.0 ≡ Announced e = one_claim (claims s) lane kept.0 (Announced e) kept.1 has
    in let fits = subst (λ c. KeepsLane m c false (Some pei)) same (subst (λ b. KeepsLane m kept.0 b (Some pei)) spent (subst (KeepsLane m kept.0 (is_spent o lane)) there kept.2))
    in subst (Has (claims s) lane) (before_try m (Announced e) pei fits (λ x y z. cc z) (λ z. absurd (cc z))) has

-- and a claim that is held is on its PEI's entry, in its mode
pub held_entry : (m : MachineSpec) (s : SeatView) (o : OwnPeis) (lane e : ℕ) (k : Mode) (pei : OwnPei) → 1 ≤ lane → lane ≤ 4 → KeepsClaims m s o → is_spent o lane ≡ false → pei_in o lane ≡ Some pei → Has (claims s) lane (Held e k) → Has (claims s) lane (Held (entry_of m pei) pei.mode)
held_entry m s o lane e k pei low high keeps spent there has =
    let kept = keeps lane low high
    in let same : kept.0 ≡ Held e k = one_claim (claims s) lane kept.0 (Held e k) kept.1 has
    in let fits : FitsPei m (Held e k) pei = subst (λ c. KeepsLane m c false (Some pei)) same (subst (λ b. KeepsLane m kept.0 b (Some pei)) spent (subst (KeepsLane m kept.0 (is_spent o lane)) there kept.2))
    in subst (Has (claims s) lane) (λ i. Held (fits.0 i) (fits.1 i)) has

-- ---- the end of a thread that found no stamp left

pub let_all_go : (p : Listing) (m : MachineSpec) (image : Contents) (t : TableId) (s : SeatView) (run : CoreRun) → IsFull p m image t s run → IsLetGo p m image t s run
let_all_go p m image t s run h = record { rest = h.rest; found = h.found; followed = h.keeps.followed; ended = h.keeps.ended; actives = h.keeps.actives }

pub let_done : (p : Listing) (m : MachineSpec) (image : Contents) (t : TableId) (s : SeatView) (run : CoreRun) → IsLetGo p m image t s run → IsDone p m image t s run.end
let_done p m image t s run h = record { rest = h.rest; followed = h.followed; ended = h.ended; over = inr h.found }

-- and of one whose core has ended
pub ended_done : (p : Listing) (m : MachineSpec) (image : Contents) (t : TableId) (s : SeatView) (run : CoreRun) → is_some run.end ≡ true → IsInTurn p m image t s run → IsDone p m image t s run.end
ended_done p m image t s run over h = record { rest = h.rest; followed = h.keeps.followed; ended = h.keeps.ended; over = inl over }
