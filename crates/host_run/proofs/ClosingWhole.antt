-- The threads of a run, from the seats of a new table to the run that its journal is.
use Rattle.std.proofs.Common.{◌≡◌, ◌⊎◌, inl, inr, ℕ, zero, suc, ◌+◌, ◌-◌, ◌<◌, ◌≤◌, true, All, List, [], ◌∷◌, ◌++◌, map, length, get_or, Option, None, is_some, refl, sym, ◌∙◌, ap, subst, arith}
use Rattle.std.specs.List.{range_with_len}
use Rattle.std.proofs.lemmas.List.{length-map, map-append}
use Rattle.std.proofs.lemmas.List.FromFn.{length-range_with_len, length-map-range_with_len}
use mathlib.Core.Option.{some, some-injective, some-ne-none}
use lib.ListN.{get_elem?}
use Rattle.atomic_table.specs.Seated.{TableId}
use Rattle.atomic_table.proofs.Lists.{at_map}
use Rattle.pei_types.specs.declared.calls.EndKind.{EndKind}
use Rattle.pei_types.specs.declared.machines.MachineSpec.{MachineSpec}
use Rattle.pei_types.specs.declared.stamps.Stamped.{Stamped}
use Rattle.pei_types.specs.Exclusion.{EntersAlone}
use Rattle.pei_types.specs.Fence.{FencesEarlier}
use Rattle.pei_types.specs.Legal.{EachEvent}
use Rattle.pei_types.specs.Program.{Listing, Contents}
use Rattle.history_laws.specs.Laws.{JournalsAreSound}
use Rattle.history_laws.specs.Members.{In}
use Rattle.history_laws.proofs.Lists.{in_map, map-map, map_in}
use Rattle.bank_laws.specs.Laws.{BanksKeepApart, LogsMakeLegal}
use Rattle.bank_laws.specs.Logs.{merged}
use Rattle.shared_table.specs.ClosedTable.{Merged}
use Rattle.shared_table.specs.Parts.{core_number, filled, turn}
use Rattle.shared_table.specs.Place.{SeatView, all_seats, later_seats}
use Rattle.shared_table.specs.Receipts.{Account, seat_account}
use Rattle.shared_table.proofs.Pairs.{at_unmap, each_push}
use Rattle.thread_laws.proofs.Lanes.{at_of_in, in_of_at}
use Rattle.fabric.specs.Banks.{BankHistory, bank_at_start, banks_at_start}
use Rattle.fabric.specs.Merge.{CanMerge, logs_of}
use Rattle.host_run.specs.ThreadInvariant.{IsDone, own_end}
use Rattle.host_run.specs.Runs.{IsRunOf}
use Rattle.host_run.specs.NewSeat.{IsNewSeat}
use Rattle.host_run.proofs.ClosingBanks.{AreOf, all_banks, at_number}
use Rattle.host_run.proofs.ClosingLogs.{stamped, merged_is, get_at, at_below}
use Rattle.host_run.proofs.ClosingMerge.{actors, guarded, unfenced}
use Rattle.host_run.proofs.ClosingRuns.{AreBack, is_legal, is_run, range_append}
use Rattle.host_run.proofs.ClosingSeats.{no_ends}
use Rattle.host_run.proofs.Looks.{in_range}

-- ---- the slots of a new table

pub slot_at : {S : Type 0} (f : S → BankHistory) (m : MachineSpec) (image : Contents) (slots : List S) (b : ℕ) (x : S) → map f slots ≡ banks_at_start m image → get_elem? slots b ≡ some x → f x ≡ bank_at_start m image b
slot_at f m image slots b x same e = at_number m image b (f x) (subst (λ xs. get_elem? xs b ≡ some (f x)) same (at_map f slots b x e))

pub slot_count : {S : Type 0} (f : S → BankHistory) (m : MachineSpec) (image : Contents) (slots : List S) → map f slots ≡ banks_at_start m image → length slots ≡ m.banks
slot_count f m image slots same = sym (length-map slots f) ∙ ap length same ∙ length-map-range_with_len (bank_at_start m image) 0 m.banks

-- ---- its seats

abbrev AllNew : TableId → List SeatView → Type 0
AllNew t xs = (i : ℕ) (s : SeatView) → get_elem? xs i ≡ some s → IsNewSeat t s

later_new : (t : TableId) (n : ℕ) → AllNew t (later_seats t n)
later_new t zero i s e = absurd (some-ne-none s (sym e))
later_new t (suc n) i s e =
    each_push (λ _ (u : SeatView). IsNewSeat t u) (later_seats t n) _ (later_new t n) (record { table = refl; slot = refl; stamp = refl; missed = refl; own = refl; fenced = refl; lanes = refl; logs = λ k. refl; actives = λ k. refl }) i s e

pub all_new : (t : TableId) (cores : ℕ) (xs : List SeatView) → xs ≡ (all_seats t cores).list → AllNew t xs
all_new t cores xs is = subst (AllNew t) (sym is) one
  where
    one : AllNew t (all_seats t cores).list
    one zero s e = subst (IsNewSeat t) (some-injective _ s e) (record { table = refl; slot = refl; stamp = refl; missed = refl; own = refl; fenced = refl; lanes = refl; logs = λ k. refl; actives = λ k. refl })
    one (suc i) s e = later_new t (cores - 1) i s e

later_numbers : (t : TableId) (n : ℕ) → map core_number (later_seats t n) ≡ range_with_len 1 n
later_numbers t zero = refl
later_numbers t (suc n) =
    let more : suc n ≡ n + 1 = omega arith
    in let next : suc n ≡ 1 + n = omega arith
    in map-append core_number (later_seats t n) _ ∙ ap (λ ns. ns ++ suc n ∷ []) (later_numbers t n) ∙ ap (λ k. range_with_len 1 n ++ k ∷ []) next ∙ sym (ap (range_with_len 1) more ∙ range_append 1 n 1)

pub all_numbers : (t : TableId) (cores : ℕ) (xs : List SeatView) → 0 < cores → xs ≡ (all_seats t cores).list → map core_number xs ≡ range_with_len 0 cores
all_numbers t cores xs some_core is =
    let more : cores ≡ suc (cores - 1) = omega (arith, some_core)
    in ap (map core_number) is ∙ ap (λ ns. 0 ∷ ns) (later_numbers t (cores - 1)) ∙ sym (ap (range_with_len 0) more)

pub seat_count : (t : TableId) (m : MachineSpec) (xs : List SeatView) → xs ≡ (all_seats t m.cores).list → length xs ≡ m.cores
seat_count t m xs is = sym (length-map xs core_number) ∙ ap length (all_numbers t m.cores xs m.cores_in_limits.0 is) ∙ length-range_with_len 0 m.cores

pub in_cores : (t : TableId) (m : MachineSpec) (xs : List SeatView) (i : ℕ) (s : SeatView) → xs ≡ (all_seats t m.cores).list → get_elem? xs i ≡ some s → core_number s < m.cores
in_cores t m xs i s is e =
    let there = subst (In (core_number s)) (all_numbers t m.cores xs m.cores_in_limits.0 is) (map_in core_number xs s (in_of_at xs s i e))
    in let high = (in_range 0 m.cores (core_number s) there).1
    in omega (arith, high)

-- ---- what threads hand back

-- two lists that are alike place by place
alike : {A B C : Type 0} (f : A → C) (g : B → C) (xs : List A) (ys : List B) → length xs ≡ length ys → ((i : ℕ) (d : A) (e : B) → i < length xs → f (get_or xs i d) ≡ g (get_or ys i e)) → map f xs ≡ map g ys
alike f g [] [] count h = refl
alike f g [] (y ∷ ys) count h = absurd (omega (arith, count))
alike f g (x ∷ xs) [] count h = absurd (omega (arith, count))
alike f g (x ∷ xs) (y ∷ ys) count h = rw (h 0 x y (omega arith), alike f g xs ys (omega (arith, count)) (λ i d e less. h (suc i) d e (omega (arith, less)))) refl

-- The banks merge, and their journal is a run.
pub record HasRun (p : Listing) (m : MachineSpec) (image : Contents) (banks : List BankHistory) (ends : List (Option EndKind)) (accounts : List Account) : Type 0 where
  pub n : ℕ
  pub merges : CanMerge m image n banks
  pub run : IsRunOf p m image (merged n (logs_of banks)) ends accounts

-- each of the seats with their ends is that of a job, done
abbrev pub AreDone : Listing → MachineSpec → Contents → TableId → List SeatView → List (SeatView × Option EndKind) → Type 0
AreDone p m image t jobs done =
    (i : ℕ) (d : SeatView × Option EndKind) → i < length jobs → IsDone p m image t (get_or done i d).0 (get_or done i d).1 × ((s : SeatView) → core_number (get_or done i d).0 ≡ core_number (get_or jobs i s))

module _ (p : Listing) (m : MachineSpec) (image : Contents) (t : TableId) (jobs : List SeatView) (done : List (SeatView × Option EndKind)) (made : jobs ≡ (all_seats t m.cores).list) (count : length done ≡ length jobs) (told : AreDone p m image t jobs done) where
  abbrev seats : List SeatView
  seats = map (λ y. y.0) done

  job_numbers : map core_number jobs ≡ range_with_len 0 m.cores
  job_numbers = all_numbers t m.cores jobs m.cores_in_limits.0 made

  job_count : length jobs ≡ m.cores
  job_count = seat_count t m jobs made

  pub done_count : length done ≡ m.cores
  done_count = count ∙ job_count

  pub few : length done ≤ 8
  few = let some_cores = m.cores_in_limits.1 in let n = done_count in omega (arith, some_cores, n)

  pub tables : All (λ y. y.0.table ≡ t) done
  tables i d less = (told i d (subst (λ n. i < n) count less)).0.rest.table

  in_order : map (λ (y : SeatView × Option EndKind). core_number y.0) done ≡ range_with_len 0 m.cores
  in_order = alike (λ (y : SeatView × Option EndKind). core_number y.0) core_number done jobs count (λ i d s less. (told i d (subst (λ n. i < n) count less)).1 s) ∙ job_numbers

  pub order : map (λ y. core_number y.0) done ≡ range_with_len 0 (length done)
  order = in_order ∙ ap (range_with_len 0) (sym done_count)

  is_done : (y : SeatView × Option EndKind) → In y done → IsDone p m image t y.0 y.1
  is_done y i =
      let at = at_of_in done y i
      in subst (λ (z : SeatView × Option EndKind). IsDone p m image t z.0 z.1) (get_at done at.0 y y at.1) (told at.0 y (subst (λ n. at.0 < n) count (at_below done at.0 y at.1))).0

  seat_done : (s : SeatView) → In s seats → (e : Option EndKind) × IsDone p m image t s e
  seat_done s i = let r = in_map (λ (y : SeatView × Option EndKind). y.0) done s i in (r.0.1, subst (λ u. IsDone p m image t u r.0.1) (sym r.2) (is_done r.0 r.1))

  pub idle : (xs : List SeatView) → xs ≡ seats → (i : ℕ) (s : SeatView) → get_elem? xs i ≡ some s → turn s ≡ None
  idle xs same i s e = (seat_done s (subst (In s) same (in_of_at xs s i e))).1.rest.slot

  numbers : map core_number seats ≡ range_with_len 0 m.cores
  numbers = map-map core_number (λ (y : SeatView × Option EndKind). y.0) done ∙ in_order

  ended : (ys : List (SeatView × Option EndKind)) → ((y : SeatView × Option EndKind) → In y ys → y.1 ≡ own_end y.0) → map (λ y. y.1) ys ≡ map own_end (map (λ y. y.0) ys)
  ended [] h = refl
  ended (y ∷ ys) h = rw (h y (inl refl), ended ys (λ z i. h z (inr i))) refl

  are_back : BanksKeepApart → (logs : List (List Stamped)) → length logs ≡ m.banks → Merged m.directory m.events logs seats → AreBack p m image logs seats
  are_back apart logs banks merged = record {
    banks = (let fit = m.banks_in_limits in apart.banks m fit.1 fit.2 fit.3 fit.4);
    few = m.cores_in_limits.1;
    count = banks;
    merged = merged;
    numbers = numbers;
    rows = λ s i. (seat_done s i).1.followed.rows;
    over = λ s i. over s (seat_done s i);
  }
    where
      over : (s : SeatView) → (e : Option EndKind) × IsDone p m image t s e → (is_some (own_end s) ≡ true) ⊎ (filled s ≡ true)
      over s r = subst (λ o. (is_some o ≡ true) ⊎ (filled s ≡ true)) r.1.ended r.1.over

  -- The table's journal is a run,
  pub whole_run : LogsMakeLegal → (apart : BanksKeepApart) (logs : List (List Stamped)) (banks : length logs ≡ m.banks) (table : Merged m.directory m.events logs seats) (ends : List (Option EndKind)) → ends ≡ map (λ y. y.1) done ++ no_ends (length done)
      → IsRunOf p m image (merged (length table.journal) logs) ends (map seat_account seats)
  unfolding are_back
  whole_run legal apart logs banks table ends told_ends =
      is_run legal p m image logs seats (are_back apart logs banks table) ends
      (told_ends ∙ ap (λ es. es ++ no_ends (length done)) (ended done (λ y i. (is_done y i).ended)) ∙ ap (λ n. map own_end seats ++ no_ends n) (sym (length-map done (λ (y : SeatView × Option EndKind). y.0))))

  -- and its banks merge.
  pub merges : LogsMakeLegal → BanksKeepApart → JournalsAreSound → (banks : List BankHistory) → length banks ≡ m.banks → AreOf m image 0 banks → (table : Merged m.directory m.events (logs_of banks) seats) → CanMerge m image (length table.journal) banks
  unfolding are_back
  merges legal apart sound banks count_banks of table =
      let logs = logs_of banks
      in let counted : length logs ≡ m.banks = length-map banks (λ (h : BankHistory). h.log) ∙ count_banks
      in let journal = merged (length table.journal) logs
      in let right = is_legal legal p m image logs seats (are_back apart logs counted table)
      in let same = merged_is m.directory m.events logs table.journal table.sound
      in record {
        all = all_banks m image banks count_banks of;
        stamps = stamped m.directory m.events logs table.journal table.sound;
        actors = actors p m image journal right;
        guarded = guarded p m image journal right;
        alone = subst (EachEvent (λ before e. EntersAlone m before e.actor e.kind)) (sym same) (table.sound.alone m refl);
        fenced = subst (EachEvent (λ before e. FencesEarlier before e.actor e.kind)) (sym same) table.sound.fences;
        unfenced = unfenced p m image journal right sound;
      }

  -- So it is with what a closed table leaves: its slots, and its seats, in whatever words its own contract has them.
  pub has_run : LogsMakeLegal → BanksKeepApart → JournalsAreSound → {S : Type 0} (bank : S → BankHistory) (slots : List S) (banks : List BankHistory) → banks ≡ map bank slots → length slots ≡ m.banks
      → ((b : ℕ) (x : S) → get_elem? slots b ≡ some x → ((bank x).machine ≡ m) × ((bank x).image ≡ image) × ((bank x).bank ≡ b))
      → (entries room : ℕ) (list : List SeatView) → Merged entries room (map (λ x. (bank x).log) slots) list → entries ≡ m.directory → room ≡ m.events → list ≡ seats
      → (ends : List (Option EndKind)) → ends ≡ map (λ y. y.1) done ++ no_ends (length done) → (accounts : List Account) → accounts ≡ map seat_account list → HasRun p m image banks ends accounts
  has_run legal apart sound {S} bank slots banks behind slot_number of entries room list table same_entries same_room back ends told_ends accounts told_accounts =
      let logs_are : map (λ x. (bank x).log) slots ≡ logs_of banks = sym (ap logs_of behind ∙ map-map (λ (h : BankHistory). h.log) bank slots)
      in let closed : Merged m.directory m.events (logs_of banks) seats = (
      subst (λ xs. Merged m.directory m.events (logs_of banks) xs) back
      (subst (λ ls. Merged m.directory m.events ls list) logs_are
      (subst (λ n. Merged m.directory n (map (λ x. (bank x).log) slots) list) same_room
      (subst (λ n. Merged n room (map (λ x. (bank x).log) slots) list) same_entries table))))
      in let counted : length banks ≡ m.banks = ap length behind ∙ length-map slots bank ∙ slot_number
      in let each : AreOf m image 0 banks = λ i h e.
      let at = at_unmap bank slots i h (subst (λ xs. get_elem? xs i ≡ some h) behind e)
      in let x = of i at.0 at.1
      in let here : i ≡ 0 + i = omega arith
      in (ap (λ (y : BankHistory). y.machine) (sym at.2) ∙ x.0, ap (λ (y : BankHistory). y.image) (sym at.2) ∙ x.1, ap (λ (y : BankHistory). y.bank) (sym at.2) ∙ x.2 ∙ here)
      in record {
        n = length closed.journal;
        merges = merges legal apart sound banks counted each closed;
        run = subst (IsRunOf p m image (merged (length closed.journal) (logs_of banks)) ends) (sym (told_accounts ∙ ap (map seat_account) back)) (whole_run legal apart (logs_of banks) (length-map banks (λ (h : BankHistory). h.log) ∙ counted) closed ends told_ends);
      }
