-- What all banks have is all.
use Rattle.std.proofs.Common.{◌≡◌, ◌⊎◌, inl, inr, ℕ, suc, ◌<◌, true, List, [], ◌∷◌, length, map, filter, refl, sym, ◌∙◌, ap, ap₂, subst, arith, eq-eqb}
use Rattle.std.proofs.Math.Nat.{mod-eq_of_lt}
use Rattle.std.proofs.lemmas.Nat.{mod_below}
use Rattle.pei_types.specs.declared.identifiers.Block.{Block}
use Rattle.pei_types.specs.declared.identifiers.BlockNo.{BlockNo}
use Rattle.pei_types.specs.declared.identifiers.CoreId.{CoreId}
use Rattle.pei_types.specs.declared.identifiers.PeiId.{PeiId}
use Rattle.pei_types.specs.declared.inflight_looks.PeiLook.{PeiLook}
use Rattle.pei_types.specs.declared.inflight_looks.Phase.TheVariants as phase
use Rattle.pei_types.specs.declared.machines.MachineSpec.{MachineSpec}
use Rattle.pei_types.specs.MachineState.{State, letter_of, mark_of, is_i, is_ahead, is_absent, is_clean, is_phase}
use Rattle.pei_types.specs.Recency.{list_at}
use Rattle.history_laws.specs.Members.{In}
use Rattle.coherence_laws.specs.Data.{DataHolds, BuffersHold}
use Rattle.coherence_laws.specs.Holdings.{Holdings, data_of, bare_copy, bare_line}
use Rattle.coherence_laws.specs.Invariants.{HasSizes}
use Rattle.coherence_laws.specs.Sets.{EachPair}
use Rattle.machine_laws.specs.Memory.{HoldsMemory}
use Rattle.bank_laws.specs.Banks.{bank_of}
use Rattle.bank_laws.specs.Parts.{SameInBank, is_in_bank}
use Rattle.bank_laws.specs.Local.{SameOn}
use Rattle.bank_laws.specs.Merge.{IsWhole, SameCaches, HoldSame}
use Rattle.bank_laws.proofs.Locality.{letter_same, mark_same}
use Rattle.history_laws.proofs.Lists.{each_of, each_in, in_filter, filter_in}

-- ---- lists by their places

same_lists : {A : Type 0} (xs ys : List (List A)) → length xs ≡ length ys → ((i : ℕ) → i < length xs → list_at xs i ≡ list_at ys i) → xs ≡ ys
same_lists [] [] n h = refl
same_lists [] (y ∷ ys) n h = absurd (omega (arith, n))
same_lists (x ∷ xs) [] n h = absurd (omega (arith, n))
same_lists (x ∷ xs) (y ∷ ys) n h = ap₂ (λ z zs. z ∷ zs) (h 0 (omega arith)) (same_lists xs ys (omega (arith, n)) (λ i k. h (suc i) (omega (arith, k))))

block : ℕ → BlockNo
block i = record { 0 = i }

-- the banks are at least one, and each block is of one of them
bank_below : (m : MachineSpec) (b : BlockNo) → bank_of m b < m.banks
bank_below m b = mod_below b.0 m.banks (let some = m.banks_in_limits.0 in omega (arith, some))

module _ (m : MachineSpec) (s t : State) (same : (k : ℕ) → k < m.banks → SameInBank m k s t) (hs : HasSizes m s) (ht : HasSizes m t) where
  by_block : (b : BlockNo) → SameInBank m (bank_of m b) s t
  by_block b = same (bank_of m b) (bank_below m b)

  l1_whole : s.l1 ≡ t.l1
  l1_whole = same_lists s.l1 t.l1 (hs.cores ∙ sym ht.cores) core
    where
      core : (c : ℕ) → c < length s.l1 → list_at s.l1 c ≡ list_at t.l1 c
      core c k =
          let within : c < m.cores = omega (arith, k, hs.cores)
          in same_lists (list_at s.l1 c) (list_at t.l1 c) (hs.l1_sets c within ∙ sym (ht.l1_sets c within))
          (λ i less.
          subst (λ j. list_at (list_at s.l1 c) j ≡ list_at (list_at t.l1 c) j) (mod-eq_of_lt {n = i} {m = m.l1_sets} (let size : length (list_at s.l1 c) ≡ m.l1_sets = hs.l1_sets c within in omega (arith, less, size)))
          ((by_block (record { 0 = i })).l1 (record { 0 = c }) (record { 0 = i }) refl))

  llc_whole : s.llc ≡ t.llc
  llc_whole =
      same_lists s.llc t.llc (hs.llc_sets ∙ sym ht.llc_sets)
      (λ i less. subst (λ j. list_at s.llc j ≡ list_at t.llc j) (mod-eq_of_lt {n = i} {m = m.llc_sets} (omega (arith, less, hs.llc_sets))) ((by_block (record { 0 = i })).llc (record { 0 = i }) refl))

  monitor_whole : s.monitor ≡ t.monitor
  monitor_whole =
      same_lists s.monitor t.monitor (hs.monitor_sets ∙ sym ht.monitor_sets)
      (λ i less. subst (λ j. list_at s.monitor j ≡ list_at t.monitor j) (mod-eq_of_lt {n = i} {m = m.llc_sets} (omega (arith, less, hs.monitor_sets))) ((by_block (record { 0 = i })).monitor (record { 0 = i }) refl))

  queues_whole : s.queues ≡ t.queues
  queues_whole =
      same_lists s.queues t.queues (hs.queues ∙ sym ht.queues)
      (λ i less. subst (λ j. list_at s.queues j ≡ list_at t.queues j) (mod-eq_of_lt {n = i} {m = m.vaults} (omega (arith, less, hs.queues))) ((by_block (record { 0 = i })).queues (record { 0 = i }) refl))

  pub caches_whole : SameCaches s t
  caches_whole = record { l1 = l1_whole; llc = llc_whole; monitor = monitor_whole; queues = queues_whole }

-- ---- lists that rise by a key

rising_same : {A : Type 0} (key : A → ℕ) (xs ys : List A) → EachPair (λ x y. key x < key y) xs → EachPair (λ x y. key x < key y) ys → ((z : A) → In z xs → In z ys) → ((z : A) → In z ys → In z xs) → xs ≡ ys
rising_same key [] [] hx hy to from = refl
rising_same key [] (y ∷ ys) hx hy to from = absurd (from y (inl refl))
rising_same key (x ∷ xs) [] hx hy to from = absurd (to x (inl refl))
rising_same {A} key (x ∷ xs) (y ∷ ys) hx hy to from = ap₂ (λ z zs. z ∷ zs) first (rising_same key xs ys hx.1 hy.1 to_rest from_rest)
  where
    first : x ≡ y
    first = by (to x (inl refl)) (from y (inl refl))
      where
        by : (x ≡ y) ⊎ In x ys → (y ≡ x) ⊎ In y xs → x ≡ y
        by (inl e) j = e
        by (inr i) (inl e) = sym e
        by (inr i) (inr j) =
            absurd (let a : key y < key x = each_of (λ z. key y < key z) ys x hy.0 i in let b : key x < key y = each_of (λ z. key x < key z) xs y hx.0 j in omega (arith, a, b))

    to_rest : (z : A) → In z xs → In z ys
    to_rest z i = by (to z (inr i))
      where
        by : (z ≡ y) ⊎ In z ys → In z ys
        by (inl e) = absurd (let less : key x < key z = each_of (λ w. key x < key w) xs z hx.0 i in let same : key z ≡ key x = ap key (e ∙ sym first) in omega (arith, less, same))
        by (inr j) = j

    from_rest : (z : A) → In z ys → In z xs
    from_rest z i = by (from z (inr i))
      where
        by : (z ≡ x) ⊎ In z xs → In z xs
        by (inl e) = absurd (let less : key y < key z = each_of (λ w. key y < key w) ys z hy.0 i in let same : key z ≡ key y = ap key (e ∙ first) in omega (arith, less, same))
        by (inr j) = j

-- PEIs that are the same in each bank, in one order
pub peis_whole : (m : MachineSpec) (key : PeiId → ℕ) (ps qs : List PeiLook) → EachPair (λ p q. key p.id < key q.id) ps → EachPair (λ p q. key p.id < key q.id) qs → ((k : ℕ) → k < m.banks → filter (is_in_bank m k) ps ≡ filter (is_in_bank m k) qs) → ps ≡ qs
peis_whole m key ps qs hp hq same = rising_same (λ (p : PeiLook). key p.id) ps qs hp hq (moved ps qs same) (moved qs ps (λ k less. sym (same k less)))
  where
    moved : (xs ys : List PeiLook) → ((k : ℕ) → k < m.banks → filter (is_in_bank m k) xs ≡ filter (is_in_bank m k) ys) → (p : PeiLook) → In p xs → In p ys
    moved xs ys h p i =
        let k : ℕ = bank_of m p.block
        in (in_filter (is_in_bank m k) ys p (subst (In p) (h k (bank_below m p.block)) (filter_in (is_in_bank m k) xs p i (eq-eqb k k refl)))).0

-- ---- memory

-- what each bank holds of its own blocks is held
pub memory_whole : (m : MachineSpec) (s : State) (h : Holdings) (memory : BlockNo → Block) (parts : ℕ → State) (held : ℕ → Holdings) (of_bank : ℕ → BlockNo → Block) → map (map (map bare_copy)) h.l1 ≡ s.l1 → map (map bare_line) h.llc ≡ s.llc → IsWhole m parts s → ((k : ℕ) → k < m.banks → HoldSame m k s h (held k)) → ((k : ℕ) → k < m.banks → SameOn m k memory (of_bank k)) → ((k : ℕ) → k < m.banks → HoldsMemory m (parts k) (held k) (of_bank k)) → HoldsMemory m s h memory
memory_whole m s h memory parts held of_bank l1 llc whole hold same holds =
    record { l1 = l1; llc = llc; current = current; buffers = buffers }
  where
    current : DataHolds m s (data_of m h) memory
    current b =
        let k : ℕ = bank_of m b
        in let less : k < m.banks = bank_below m b
        in let w = whole k less
        in let g = hold k less
        in let part = (holds k less).current b
        in let letters : (c : CoreId) → letter_of m s c b ≡ letter_of m (parts k) c b = λ c. letter_same m k s (parts k) c b w refl
        in let mark : mark_of m s b ≡ mark_of m (parts k) b = mark_same m k s (parts k) b w refl
        in let content : memory b ≡ of_bank k b = same k less b refl
        in record {
          copy = λ c e. g.copies c b refl ∙ part.copy c (sym (ap is_i (letters c)) ∙ e) ∙ sym content;
          line_there = λ none e. g.lines b refl ∙ part.line_there (λ c. sym (ap is_ahead (letters c)) ∙ none c) (sym (ap is_absent mark) ∙ e) ∙ sym content;
          clean_line = λ e. g.lines b refl ∙ part.clean_line (sym (ap is_clean mark) ∙ e) ∙ sym (g.vaults b refl);
          no_line = λ e. g.vaults b refl ∙ part.no_line (sym (ap is_absent mark) ∙ e) ∙ sym content;
        }

    buffers : BuffersHold s (data_of m h) memory
    buffers = each_in (λ p. is_phase p.phase phase.Read ≡ true → h.buffer p.id ≡ memory p.block) s.peis one
      where
        one : (p : PeiLook) → In p s.peis → is_phase p.phase phase.Read ≡ true → h.buffer p.id ≡ memory p.block
        one p i read =
            let k : ℕ = bank_of m p.block
            in let less : k < m.banks = bank_below m p.block
            in let there : In p (parts k).peis = (in_filter (is_in_bank m k) (parts k).peis p (subst (In p) (whole k less).peis (filter_in (is_in_bank m k) s.peis p i (eq-eqb k k refl)))).0
            in each_of (λ q. bank_of m q.block ≡ k → h.buffer q.id ≡ (held k).buffer q.id) s.peis p (hold k less).buffers i refl
            ∙ each_of (λ q. is_phase q.phase phase.Read ≡ true → (held k).buffer q.id ≡ of_bank k q.block) (parts k).peis p (holds k less).buffers there read
            ∙ sym (same k less p.block refl)
