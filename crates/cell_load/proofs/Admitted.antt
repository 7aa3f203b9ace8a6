-- What holds of lines that all have their place.
use Rattle.std.proofs.Common.{◌≡◌, ◌≤◌, ◌<◌, ◌+◌, ◌++◌, ℕ, suc, nat_lt, length, length-append, Bool, true, false, List, [], ◌∷◌, Option, Some, None, is_none, Result, Ok, Err, refl, sym, ap, subst, ◌∙◌, arith, lit≤}
use Rattle.std.proofs.lemmas.Bool.Decides.{nat_tests}
use Rattle.cell_base.specs.Words.{lines_of, words_of}
use Rattle.cell_base.specs.Walk.{walk, follow, at_end, with_item}
use Rattle.cell_load.specs.declared.line.Refusal.{Refusal}
use Rattle.cell_load.specs.declared.line.Counts.{Counts}
use Rattle.cell_load.specs.declared.line.Stage.{Stage}
use Rattle.cell_load.specs.declared.line.Stage.TheVariants.{Start, Headed, Sized, Body}
use Rattle.cell_load.specs.Entries.{Entry, Head, Lines, Budget, Spe, Entrance, Code, Bytes, Source, MemoryBytes, Host, OrMode, ShowLocal, ShowMemory}
use Rattle.cell_load.specs.Form.{◌>>=◌, line_says}
use Rattle.cell_load.specs.Order.{nothing, admit, admit_all, counted, in_body, ends_well, lacks, limited, line_step, only_if, words_step, machine_at, IsMachine}
use Rattle.cell_load.specs.Sources.{source_of, sources_from, sources_of, spes_after, spes_in}
use Rattle.cell_load.proofs.SourceLemmas.{spes_after-add}

-- ---- the entries of a text have their places

abbrev placed : Entry → Stage → Result (Option (Entry × Stage)) Refusal
placed entry next = Ok (Some (entry, next))

step_admits : (s : Stage) (line : List ℕ) (e : Entry) (t : Stage) → line_step s line ≡ Ok (Some (e, t)) → admit s e ≡ Ok t
unfolding line_step
step_admits s line e t is = by_words (words_of line) is
  where
    by_next : (entry : Entry) (next : Result Stage Refusal) → admit s entry ≡ next → (next >>= placed entry) ≡ placed e t → admit s e ≡ Ok t
    by_next entry (Err f) o is = absurd cc
    by_next entry (Ok n) o is =
        let same : ◌≡◌ {A = Entry × Stage} (entry, n) (e, t) = cc in
        ap (λ (x : Entry × Stage). admit s x.0) (sym same) ∙ o ∙ ap (λ (x : Entry × Stage). Ok x.1) same

    by_entry : (said : Result Entry Refusal) → (said >>= λ entry. admit s entry >>= placed entry) ≡ placed e t → admit s e ≡ Ok t
    by_entry (Err f) is = absurd cc
    by_entry (Ok entry) is = by_next entry (admit s entry) refl is

    by_words : (ws : List (List ℕ)) → words_step s ws ≡ Ok (Some (e, t)) → admit s e ≡ Ok t
    by_words [] is = absurd cc
    by_words (w ∷ ws) is = by_entry (line_says w ws) is

walk_ends_well : (k : ℕ) (s : Stage) (lines : List (List ℕ)) (entries : List Entry) → walk line_step lacks k s lines ≡ Ok entries → ends_well (admit_all s entries) ≡ true
unfolding walk admit_all
walk_ends_well k s [] entries is = by_end (lacks s) refl is
  where
    by_end : (o : Option Refusal) → lacks s ≡ o → at_end {X = Entry} k o ≡ Ok entries → ends_well (admit_all s entries) ≡ true
    by_end (Some f) o is = absurd cc
    by_end None o is =
        let none : [] ≡ entries = cc in
        subst (λ es. ends_well (admit_all s es) ≡ true) none (ap is_none o)
walk_ends_well k s (line ∷ lines) entries is = by_step (λ t es h. walk_ends_well (suc k) t lines es h) (line_step s line) refl is
  where
    by_rest : (e : Entry) (t : Stage) → admit s e ≡ Ok t → (read : Result (List Entry) (ℕ × Refusal)) → ((es : List Entry) → read ≡ Ok es → ends_well (admit_all t es) ≡ true) → with_item e read ≡ Ok entries → ends_well (admit_all s entries) ≡ true
    by_rest e t placed (Err f) later is = absurd cc
    by_rest e t placed (Ok es) later is =
        let all : e ∷ es ≡ entries = cc in
        subst (λ xs. ends_well (admit_all s xs) ≡ true) all (ap (λ next. ends_well (next >>= λ n. admit_all n es)) placed ∙ later es refl)

    by_step : ((t : Stage) (es : List Entry) → walk line_step lacks (suc k) t lines ≡ Ok es → ends_well (admit_all t es) ≡ true) → (o : Result (Option (Entry × Stage)) Refusal) → line_step s line ≡ o → follow k s (λ t. walk line_step lacks (suc k) t lines) o ≡ Ok entries → ends_well (admit_all s entries) ≡ true
    by_step go (Ok None) o is = go s entries is
    by_step go (Ok (Some x)) o is = by_rest x.0 x.1 (step_admits s line x.0 x.1 o) (walk line_step lacks (suc k) x.1 lines) (λ es h. go x.1 es h) is
    by_step go (Err f) o is = absurd cc

-- ---- there are at most sixteen processors

pub only_if-ok : {A : Type 0} (b : Bool) (next : Result A Refusal) (d : A) → only_if b next ≡ Ok d → (b ≡ true) × (next ≡ Ok d)
only_if-ok true next d is = (refl, is)
only_if-ok false next d is = absurd cc

pub limited-ok : {A : Type 0} (b : Bool) (next d : A) → limited b next ≡ Ok d → (b ≡ true) × (next ≡ d)
limited-ok true next d is = (refl, cc)
limited-ok false next d is = absurd cc

pub ok_same : (c d : Counts) → ◌≡◌ {A = Result Counts Refusal} (Ok c) (Ok d) → c ≡ d
ok_same c d is = cc

-- a line counts its processor, and there are never more than sixteen
pub record CountsSpe (before after : ℕ) (e : Entry) : Type 0 where
  pub counts : after ≡ spes_after before e
  pub few : before ≤ 16 → after ≤ 16

same_spes : (c d : Counts) (e : Entry) → c.spes ≡ d.spes → spes_after c.spes e ≡ c.spes → CountsSpe c.spes d.spes e
same_spes c d e same none = record { counts = sym same ∙ sym none; few = λ few. omega (arith, same, few) }

pub counted-spes : (c : Counts) (e : Entry) (d : Counts) → counted c e ≡ Ok d → CountsSpe c.spes d.spes e
unfolding counted
counted-spes c Spe d is =
    let next : Counts = record c { spes = c.spes + 1; entry = false } in
    let h = limited-ok (nat_lt c.spes 16) next d is in
    let more : c.spes + 1 ≡ d.spes = ap (λ (x : Counts). x.spes) h.1 in
    let test : nat_lt c.spes 16 ≡ true = h.0 in
    let less : c.spes < 16 = grind (arith, nat_tests) in
    record { counts = sym more; few = λ few. omega (arith, more, less) }
counted-spes c (Entrance at) d is = same_spes c d (Entrance at) (ap (λ (x : Counts). x.spes) (ok_same _ d (only_if-ok _ _ d is).1)) refl
counted-spes c (Code at bytes) d is = same_spes c d (Code at bytes) (ap (λ (x : Counts). x.spes) (ok_same _ d (only_if-ok _ _ d is).1)) refl
counted-spes c (Bytes at bytes) d is = same_spes c d (Bytes at bytes) (ap (λ (x : Counts). x.spes) (ok_same _ d (only_if-ok _ _ d is).1)) refl
counted-spes c (Source name) d is = same_spes c d (Source name) (ap (λ (x : Counts). x.spes) (limited-ok _ _ d (only_if-ok _ _ d is).1).1) refl
counted-spes c (MemoryBytes at bytes) d is = same_spes c d (MemoryBytes at bytes) (ap (λ (x : Counts). x.spes) (ok_same _ d (only_if-ok _ _ d is).1)) refl
counted-spes c (Host action) d is = same_spes c d (Host action) (ap (λ (x : Counts). x.spes) (limited-ok _ _ d (only_if-ok _ _ d is).1).1) refl
counted-spes c (OrMode spe register) d is = same_spes c d (OrMode spe register) (ap (λ (x : Counts). x.spes) (ok_same _ d (only_if-ok _ _ d is).1)) refl
counted-spes c (ShowLocal spe at len) d is = same_spes c d (ShowLocal spe at len) (ap (λ (x : Counts). x.spes) (limited-ok _ _ d (only_if-ok _ _ d is).1).1) refl
counted-spes c (ShowMemory at len) d is = same_spes c d (ShowMemory at len) (ap (λ (x : Counts). x.spes) (limited-ok _ _ d (only_if-ok _ _ d is).1).1) refl
counted-spes c Head d is = absurd cc
counted-spes c (Lines n) d is = absurd cc
counted-spes c (Budget n) d is = absurd cc

abbrev spes_of : Stage → ℕ
spes_of (Body c) = c.spes
spes_of other = 0

no_spe : (e : Entry) (x t : Stage) → spes_of x ≡ 0 → spes_after 0 e ≡ 0 → x ≡ t → CountsSpe 0 (spes_of t) e
no_spe e x t none still same =
    let zero : spes_of t ≡ 0 = ap spes_of (sym same) ∙ none in
    record { counts = zero ∙ sym still; few = λ few. omega (arith, zero) }

admit-spes : (s : Stage) (e : Entry) (t : Stage) → admit s e ≡ Ok t → CountsSpe (spes_of s) (spes_of t) e
unfolding admit
admit-spes Start Head t is = no_spe Head Headed t refl refl cc
admit-spes Start other t is = absurd cc
admit-spes Headed (Lines n) t is = no_spe (Lines n) (Sized n) t refl refl (limited-ok _ (Sized n) t is).1
admit-spes Headed other t is = absurd cc
admit-spes (Sized lines) (Budget n) t is = no_spe (Budget n) (Body (nothing lines)) t refl refl (limited-ok _ (Body (nothing lines)) t is).1
admit-spes (Sized lines) other t is = absurd cc
admit-spes (Body c) e t is = by_counts (counted c e) refl is
  where
    by_counts : (o : Result Counts Refusal) → counted c e ≡ o → in_body o ≡ Ok t → CountsSpe c.spes (spes_of t) e
    by_counts (Err f) o is = absurd cc
    by_counts (Ok d) o is =
        let same : Body d ≡ t = cc in
        subst (λ (x : Stage). CountsSpe c.spes (spes_of x) e) same (counted-spes c e d o)

few_from : (s : Stage) (entries : List Entry) → ends_well (admit_all s entries) ≡ true → spes_of s ≤ 16 → spes_of s + spes_in entries ≤ 16
unfolding admit_all spes_in
few_from s [] ends few = omega (arith, few)
few_from s (e ∷ es) ends few = by_next (λ t h f. few_from t es h f) (admit s e) refl ends
  where
    by_next : ((t : Stage) → ends_well (admit_all t es) ≡ true → spes_of t ≤ 16 → spes_of t + spes_in es ≤ 16) → (o : Result Stage Refusal) → admit s e ≡ o → ends_well (o >>= λ n. admit_all n es) ≡ true → spes_of s + spes_after (spes_in es) e ≤ 16
    by_next go (Err f) o ends = absurd cc
    by_next go (Ok t) o ends =
        let one = admit-spes s e t o in
        omega (arith, go t ends (one.few few), one.counts, spes_after-add (spes_of s) (spes_in es) e)

pub few_spes : (entries : List Entry) → IsMachine entries → spes_in entries ≤ 16
few_spes entries whole = omega (arith, few_from Start entries whole (lit≤ tt))

-- ---- there are at most thirty-two sources

-- a line counts the source it names, and there are never more than thirty-two
record CountsSource (spes before after : ℕ) (e : Entry) : Type 0 where
  counts : after ≡ before + length (source_of spes e)
  few : before ≤ 32 → after ≤ 32

same_sources : (spes : ℕ) (c d : Counts) (e : Entry) → c.sources ≡ d.sources → length (source_of spes e) ≡ 0 → CountsSource spes c.sources d.sources e
same_sources spes c d e same none = record { counts = omega (arith, same, none); few = λ few. omega (arith, same, few) }

counted-sources : (spes : ℕ) (c : Counts) (e : Entry) (d : Counts) → counted c e ≡ Ok d → CountsSource spes c.sources d.sources e
unfolding counted
counted-sources spes c Spe d is = same_sources spes c d Spe (ap (λ (x : Counts). x.sources) (limited-ok _ _ d is).1) refl
counted-sources spes c (Entrance at) d is = same_sources spes c d (Entrance at) (ap (λ (x : Counts). x.sources) (ok_same _ d (only_if-ok _ _ d is).1)) refl
counted-sources spes c (Code at bytes) d is = same_sources spes c d (Code at bytes) (ap (λ (x : Counts). x.sources) (ok_same _ d (only_if-ok _ _ d is).1)) refl
counted-sources spes c (Bytes at bytes) d is = same_sources spes c d (Bytes at bytes) (ap (λ (x : Counts). x.sources) (ok_same _ d (only_if-ok _ _ d is).1)) refl
counted-sources spes c (Source name) d is =
    let next : Counts = record c { sources = c.sources + 1 } in
    let h : (nat_lt c.sources 32 ≡ true) × (next ≡ d) = limited-ok (nat_lt c.sources 32) next d (only_if-ok (nat_lt 0 c.spes) (limited (nat_lt c.sources 32) next) d is).1 in
    let more : c.sources + 1 ≡ d.sources = ap (λ (x : Counts). x.sources) h.1 in
    let test : nat_lt c.sources 32 ≡ true = h.0 in
    let less : c.sources < 32 = grind (arith, nat_tests) in
    record { counts = sym more; few = λ few. omega (arith, more, less) }
counted-sources spes c (MemoryBytes at bytes) d is = same_sources spes c d (MemoryBytes at bytes) (ap (λ (x : Counts). x.sources) (ok_same _ d (only_if-ok _ _ d is).1)) refl
counted-sources spes c (Host action) d is = same_sources spes c d (Host action) (ap (λ (x : Counts). x.sources) (limited-ok _ _ d (only_if-ok _ _ d is).1).1) refl
counted-sources spes c (OrMode q register) d is = same_sources spes c d (OrMode q register) (ap (λ (x : Counts). x.sources) (ok_same _ d (only_if-ok _ _ d is).1)) refl
counted-sources spes c (ShowLocal spe at len) d is = same_sources spes c d (ShowLocal spe at len) (ap (λ (x : Counts). x.sources) (limited-ok _ _ d (only_if-ok _ _ d is).1).1) refl
counted-sources spes c (ShowMemory at len) d is = same_sources spes c d (ShowMemory at len) (ap (λ (x : Counts). x.sources) (limited-ok _ _ d (only_if-ok _ _ d is).1).1) refl
counted-sources spes c Head d is = absurd cc
counted-sources spes c (Lines n) d is = absurd cc
counted-sources spes c (Budget n) d is = absurd cc

abbrev named_by : Stage → ℕ
named_by (Body c) = c.sources
named_by other = 0

no_source : (spes : ℕ) (e : Entry) (x t : Stage) → named_by x ≡ 0 → length (source_of spes e) ≡ 0 → x ≡ t → CountsSource spes 0 (named_by t) e
no_source spes e x t none still same =
    let zero : named_by t ≡ 0 = ap named_by (sym same) ∙ none in
    record { counts = omega (arith, zero, still); few = λ few. omega (arith, zero) }

admit-sources : (spes : ℕ) (s : Stage) (e : Entry) (t : Stage) → admit s e ≡ Ok t → CountsSource spes (named_by s) (named_by t) e
unfolding admit
admit-sources spes Start Head t is = no_source spes Head Headed t refl refl cc
admit-sources spes Start other t is = absurd cc
admit-sources spes Headed (Lines n) t is = no_source spes (Lines n) (Sized n) t refl refl (limited-ok _ (Sized n) t is).1
admit-sources spes Headed other t is = absurd cc
admit-sources spes (Sized lines) (Budget n) t is = no_source spes (Budget n) (Body (nothing lines)) t refl refl (limited-ok _ (Body (nothing lines)) t is).1
admit-sources spes (Sized lines) other t is = absurd cc
admit-sources spes (Body c) e t is = by_counts (counted c e) refl is
  where
    by_counts : (o : Result Counts Refusal) → counted c e ≡ o → in_body o ≡ Ok t → CountsSource spes c.sources (named_by t) e
    by_counts (Err f) o is = absurd cc
    by_counts (Ok d) o is =
        let same : Body d ≡ t = cc in
        subst (λ (x : Stage). CountsSource spes c.sources (named_by x) e) same (counted-sources spes c e d o)

few_named : (s : Stage) (spes : ℕ) (entries : List Entry) → ends_well (admit_all s entries) ≡ true → named_by s ≤ 32 → named_by s + length (sources_from spes entries) ≤ 32
unfolding admit_all sources_from
few_named s spes [] ends few = omega (arith, few)
few_named s spes (e ∷ es) ends few = by_next (λ t h f. few_named t (spes_after spes e) es h f) (admit s e) refl ends
  where
    by_next : ((t : Stage) → ends_well (admit_all t es) ≡ true → named_by t ≤ 32 → named_by t + length (sources_from (spes_after spes e) es) ≤ 32) → (o : Result Stage Refusal) → admit s e ≡ o → ends_well (o >>= λ n. admit_all n es) ≡ true → named_by s + length (source_of spes e ++ sources_from (spes_after spes e) es) ≤ 32
    by_next go (Err f) o ends = absurd cc
    by_next go (Ok t) o ends =
        let one = admit-sources spes s e t o in
        omega (arith, go t ends (one.few few), one.counts, length-append (source_of spes e) (sources_from (spes_after spes e) es))

pub few_sources : (entries : List Entry) → IsMachine entries → length (sources_of entries) ≤ 32
few_sources entries whole = omega (arith, few_named Start 0 entries whole (lit≤ tt))

pub is_machine : (text : List ℕ) (entries : List Entry) → machine_at text ≡ Ok entries → IsMachine entries
is_machine text entries is = walk_ends_well 1 Start (lines_of text) entries is
