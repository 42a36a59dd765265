-- What a table keeps as a job changes, comes or goes, in the words of its map and its queue.
use Rattle.std.proofs.Common.{◌≡◌, ℕ, zero, suc, [], ◌∷◌, slice_get, add-one, ◌+◌, ◌^◌, ◌<◌, ◌≤◌, Bool, true, false, cond, List, length, nat_eq, Option, Some, None, is_some, option_map, refl, sym, ap, ◌∙◌, subst, arith}
use Rattle.std.specs.Map.{lookup, keys_of}
use Rattle.std.specs.List.{IsDistinct}
use Rattle.job_table.specs.Table.{JobData, TableData, first_of, behind, AreWaiting, is_key, is_waiting, is_out, does_wait, find_row, drop_row, without, waiting_then, add_job, change_job, drop_job}
use Rattle.job_table.specs.Queue.{jobs_in, links_at, line_of, links_in, no_links, joined, one_gone, IsLinked}
use Rattle.job_table.specs.Kept.{rows_of, counted, moved, one_more, one_less, whole, IsHeld, IsTable, IsChanging}
use Rattle.job_table.specs.declared.counts.Counts.{Counts}
use Rattle.job_table.specs.declared.phase.Phase.{Phase}
use Rattle.job_table.specs.declared.queue.Links.{Links}
use Rattle.job_table.specs.declared.queue.Linked.{Linked}
use Rattle.job_table.specs.declared.queue.Queue.{Queue}
use Rattle.job_table.proofs.RowLemmas.{one_if}
use Rattle.job_table.proofs.QueueLemmas.{at_key, times, key_is}
use Rattle.job_table.proofs.LinkLemmas.{once_rest, once_first, ahead_none, behind_none}
use Rattle.job_table.proofs.EntryLemmas.{jobs_lookup}
use Rattle.job_table.proofs.LineLemmas.{HasLeft, same_links, line_is, left}
use Rattle.job_table.proofs.MapLemmas.{IsUpdate, named_find, key_eq, rows_length, rows_without}
use Rattle.job_table.proofs.KeptLemmas.{most_kept, not_known}
use Rattle.job_table.proofs.CountLemmas.{kept_most}
use Rattle.job_table.proofs.WaitingLemmas.{stands}
use Rattle.job_table.proofs.TableLemmas.{table_of, found_in, IsFound, change_in, drop_in, add_in, IsNow, Recounts, recounts_as, begun, same_table}

job_there : {J : Type 0} (t s : ℕ) (es : List ((ℕ × ℕ) × Linked J)) (o : Option (Linked J)) → lookup (is_key t s) es ≡ o → lookup (is_key t s) (jobs_in es) ≡ option_map (λ e. e.job) o
job_there t s es o there = jobs_lookup (is_key t s) es ∙ ap (option_map (λ e. e.job)) there

-- what a job that is found in the map is in the table
pub found_whole : {J : Type 0} (t s : ℕ) (old : Linked J) {es : List ((ℕ × ℕ) × Linked J)} {queue : Queue} {counts : List (ℕ × Counts)} → IsTable es counts queue → Some old ≡ lookup (is_key t s) es
    → IsFound t s old.job (jobs_in es) counts (line_of es queue)
found_whole t s old {es = es} {queue = queue} {counts = counts} table there = found_in t s old.job (jobs_in es) counts (line_of es queue) table.held (job_there t s es (Some old) (sym there))

-- and what a table's caller sees of what was looked up
pub seen : {J : Type 0} (t s : ℕ) {es : List ((ℕ × ℕ) × Linked J)} {queue : Queue} {counts : List (ℕ × Counts)} {table : TableData} {o : Option (Linked J)} → IsTable es counts queue → whole es queue ≡ table → o ≡ lookup (is_key t s) es
    → find_row t s table.rows ≡ option_map (λ e. e.job) o
seen t s {es = es} {o = o} kept view there = ap (λ (d : TableData). find_row t s d.rows) (sym view) ∙ named_find t s (jobs_in es) kept.held.named ∙ job_there t s es o (sym there)

-- how often a tenant's number stands among those who wait
pub stood_whole : {J : Type 0} (t s : ℕ) {es : List ((ℕ × ℕ) × Linked J)} {queue : Queue} {counts : List (ℕ × Counts)} {o : Option (Linked J)} → IsTable es counts queue → o ≡ lookup (is_key t s) es
    → times t s (line_of es queue) ≡ one_if (does_wait (option_map (λ e. e.job) o))
stood_whole t s {es = es} {queue = queue} table there = table.held.kept.waiting t s ∙ ap (λ f. one_if (does_wait f)) (seen t s {queue = queue} table refl there)

-- a table that is another one now
pub record IsAfter {J : Type 0} (after : TableData) (es : List ((ℕ × ℕ) × Linked J)) (counts : List (ℕ × Counts)) (queue : Queue) : Type 0 where
  pub table : IsTable es counts queue
  pub is : whole es queue ≡ after

-- a table whose map was only looked into
pub looked_into : {J : Type 0} {es mid : List ((ℕ × ℕ) × Linked J)} {queue : Queue} {counts : List (ℕ × Counts)} → IsTable es counts queue → mid ≡ es → IsAfter (whole es queue) mid counts queue
looked_into {queue = queue} {counts = counts} table same = record { table = subst (λ xs. IsTable xs counts queue) (sym same) table; is = ap (λ xs. whole xs queue) same }

-- the map once a job is written into it, before the queue is told
pub record IsWritten {J : Type 0} (t s : ℕ) (then : JobData) (es mid : List ((ℕ × ℕ) × Linked J)) (queue : Queue) : Type 0 where
  pub line : line_of mid queue ≡ line_of es queue
  pub linked : IsLinked mid queue (line_of mid queue)
  pub jobs : IsUpdate t s (Some then) (jobs_in es) (jobs_in mid)

option_case : {X Y : Type 0} (f : X → Y) (b : Bool) (o was : Option X) → option_map f (cond b o was) ≡ cond b (option_map f o) (option_map f was)
option_case f true o was = refl
option_case f false o was = refl

jobs_update : {J : Type 0} (t s : ℕ) (o : Option (Linked J)) (es news : List ((ℕ × ℕ) × Linked J)) → ((u n : ℕ) → lookup (is_key u n) news ≡ cond (is_key t s (u, n)) o (lookup (is_key u n) es))
    → IsUpdate t s (option_map (λ e. e.job) o) (jobs_in es) (jobs_in news)
jobs_update {J = J} t s o es news up u n =
    job_there u n news (cond (is_key t s (u, n)) o (lookup (is_key u n) es)) (up u n) ∙ option_case (λ (e : Linked J). e.job) (is_key t s (u, n)) o (lookup (is_key u n) es) ∙ ap (cond (is_key t s (u, n)) (option_map (λ e. e.job) o)) (sym (jobs_lookup (is_key u n) es))

linked_line : {J : Type 0} {mid : List ((ℕ × ℕ) × Linked J)} {queue : Queue} {keys : List (ℕ × ℕ)} → IsLinked mid queue keys → IsLinked mid queue (line_of mid queue)
linked_line {mid = mid} {queue = queue} {keys = keys} linked = subst (IsLinked mid queue) (sym (line_is mid queue keys linked)) linked

links_case : {J : Type 0} (old : Linked J) (then : JobData) (b : Bool) (was : Option (Linked J)) → was ≡ Some old → option_map (λ e. e.links) (cond b (Some (record old { job = then })) was) ≡ option_map (λ e. e.links) was
links_case old then true was is = ap (option_map (λ e. e.links)) (sym is)
links_case old then false was is = refl

same_links_at : {J : Type 0} (t s : ℕ) (old : Linked J) (then : JobData) (es mid : List ((ℕ × ℕ) × Linked J)) → lookup (is_key t s) es ≡ Some old
    → ((u n : ℕ) → lookup (is_key u n) mid ≡ cond (is_key t s (u, n)) (Some (record old { job = then })) (lookup (is_key u n) es)) → (u n : ℕ) → links_at u n mid ≡ links_at u n es
same_links_at t s old then es mid there up u n = ap (option_map (λ e. e.links)) (up u n) ∙ at_key t s u n (is_key t s (u, n)) refl (λ v m. option_map (λ e. e.links) (cond (is_key t s (v, m)) (Some (record old { job = then })) (lookup (is_key v m) es)) ≡ links_at v m es)
    (links_case old then (is_key t s (t, s)) (lookup (is_key t s) es) there) (λ e. ap (λ b. option_map (λ e. e.links) (cond b (Some (record old { job = then })) (lookup (is_key u n) es))) e)

-- links that are the same in another map
linked_same : {J : Type 0} (es mid : List ((ℕ × ℕ) × Linked J)) (queue : Queue) (keys : List (ℕ × ℕ)) → IsLinked es queue keys → ((u n : ℕ) → links_at u n mid ≡ links_at u n es) → IsLinked mid queue keys
linked_same es mid queue keys linked same = record {
  first = linked.first;
  last = linked.last;
  len = linked.len;
  once = linked.once;
  there = λ u n one. ap is_some (same u n) ∙ linked.there u n one;
  links = λ u n l is. linked.links u n l (sym (same u n) ∙ is);
}

pub written : {J : Type 0} {t s : ℕ} {was is : Phase} {mid : List ((ℕ × ℕ) × Linked J)} {counts : List (ℕ × Counts)} {queue : Queue} (of : IsChanging t s was is mid counts queue) → IsWritten t s of.then of.before mid queue
written {t = t} {s = s} {mid = mid} {queue = queue} of =
    let es = of.before in
    let same = same_links_at t s of.old of.then es mid of.found of.written in
    let now : IsLinked mid queue (line_of es queue) = linked_same es mid queue (line_of es queue) of.table.linked same in
    record {
      line = line_is mid queue (line_of es queue) now;
      linked = linked_line now;
      jobs = jobs_update t s (Some (record of.old { job = of.then })) es mid of.written;
    }

abbrev pub changing : {J : Type 0} {t s : ℕ} {was is : Phase} {es mid : List ((ℕ × ℕ) × Linked J)} {counts : List (ℕ × Counts)} {queue : Queue} (old : Linked J) (then : JobData) → IsTable es counts queue → Some old ≡ lookup (is_key t s) es
    → ((u n : ℕ) → lookup (is_key u n) mid ≡ cond (is_key t s (u, n)) (Some (record old { job = then })) (lookup (is_key u n) es)) → then.seq ≡ old.job.seq → old.job.phase ≡ was → then.phase ≡ is → IsChanging t s was is mid counts queue
changing {es = es} old then table there up named stood stands =
    record { before = es; old = old; then = then; table = table; found = sym there; written = up; named = named; stood = stood; stands = stands }

pub changing_found : {J : Type 0} {t s : ℕ} {was is : Phase} {mid : List ((ℕ × ℕ) × Linked J)} {counts : List (ℕ × Counts)} {queue : Queue} (of : IsChanging t s was is mid counts queue)
    → IsFound t s of.old.job (jobs_in of.before) counts (line_of of.before queue)
changing_found {t = t} {s = s} of = found_whole t s of.old of.table (sym of.found)

-- a queue in which a job does not stand, where that has come or is gone
kept_without : {J : Type 0} (t s : ℕ) (es mid : List ((ℕ × ℕ) × Linked J)) (queue : Queue) (keys : List (ℕ × ℕ)) → IsLinked es queue keys → times t s keys ≡ 0 → HasLeft t s es mid → IsLinked mid queue keys
kept_without t s es mid queue keys linked none gone = record {
  first = linked.first;
  last = linked.last;
  len = linked.len;
  once = linked.once;
  there = λ u n. at_key t s u n (is_key t s (u, n)) refl (λ v m. times v m keys ≡ 1 → is_some (links_at v m mid) ≡ true) (λ one. absurd (omega (arith, none, one))) (λ e one. ap is_some (gone.others u n e) ∙ linked.there u n one);
  links = λ u n. at_key t s u n (is_key t s (u, n)) refl (λ v m. (l : Links) → links_at v m mid ≡ Some l → l ≡ links_in v m keys)
      (λ l is. gone.own l is ∙ same_links no_links (links_in t s keys) (sym (ahead_none None t s keys none)) (sym (behind_none t s keys none)))
      (λ e l is. linked.links u n l (sym (gone.others u n e) ∙ is));
}

-- all others' entries are as they were
others_stay : {J : Type 0} (t s : ℕ) (o : Option (Linked J)) (es mid : List ((ℕ × ℕ) × Linked J)) → ((u n : ℕ) → lookup (is_key u n) mid ≡ cond (is_key t s (u, n)) o (lookup (is_key u n) es)) → (u n : ℕ) → is_key t s (u, n) ≡ false
    → links_at u n mid ≡ links_at u n es
others_stay t s o es mid up u n e = ap (option_map (λ e. e.links)) (up u n ∙ ap (λ b. cond b o (lookup (is_key u n) es)) e)

own_entry : {J : Type 0} (t s : ℕ) (o : Option (Linked J)) (es mid : List ((ℕ × ℕ) × Linked J)) → ((u n : ℕ) → lookup (is_key u n) mid ≡ cond (is_key t s (u, n)) o (lookup (is_key u n) es)) → lookup (is_key t s) mid ≡ o
own_entry t s o es mid up = up t s ∙ ap (λ b. cond b o (lookup (is_key t s) es)) (key_is t s)

come : {J : Type 0} (t s : ℕ) (job : JobData) (fresh : Linked J) (es mid : List ((ℕ × ℕ) × Linked J)) (queue : Queue) → IsLinked es queue (line_of es queue) → times t s (line_of es queue) ≡ 0 → fresh.job ≡ job → fresh.links ≡ no_links
    → ((u n : ℕ) → lookup (is_key u n) mid ≡ cond (is_key t s (u, n)) (Some fresh) (lookup (is_key u n) es)) → IsWritten t s job es mid queue
come t s job fresh es mid queue linked none is_job bare up =
    let own = own_entry t s (Some fresh) es mid up in
    let now : IsLinked mid queue (line_of es queue) =
    kept_without t s es mid queue (line_of es queue) linked none (record { own = λ l is. bare_links fresh l bare (sym (ap (option_map (λ e. e.links)) own) ∙ is); others = others_stay t s (Some fresh) es mid up }) in
    record {
      line = line_is mid queue (line_of es queue) now;
      linked = linked_line now;
      jobs = subst (λ j. IsUpdate t s (Some j) (jobs_in es) (jobs_in mid)) is_job (jobs_update t s (Some fresh) es mid up);
    }
  where
    bare_links : {J : Type 0} (fresh : Linked J) (l : Links) → fresh.links ≡ no_links → Some fresh.links ≡ Some l → l ≡ no_links
    bare_links fresh l bare is = let same : fresh.links ≡ l = cc in sym same ∙ bare

gone_out : {J : Type 0} (t s : ℕ) (es mid : List ((ℕ × ℕ) × Linked J)) → ((u n : ℕ) → lookup (is_key u n) mid ≡ cond (is_key t s (u, n)) None (lookup (is_key u n) es)) → HasLeft t s es mid
gone_out t s es mid up = record {
  own = λ l is. let none : links_at t s mid ≡ None = ap (option_map (λ e. e.links)) (own_entry t s None es mid up) in absurd (cc);
  others = others_stay t s None es mid up;
}

after_as : {J : Type 0} (mid : List ((ℕ × ℕ) × Linked J)) {after : TableData} {news : List ((ℕ × ℕ) × Linked J)} {counts : List (ℕ × Counts)} {new : Queue} {keys : List (ℕ × ℕ)} → IsLinked news new keys → jobs_in news ≡ jobs_in mid
    → IsNow after (table_of (jobs_in mid) (line_of news new)) (jobs_in mid) counts → IsAfter after news counts new
after_as mid {news = news} {counts = counts} {new = new} linked same now = record {
  table = record { held = subst (λ js. IsHeld js counts (line_of news new)) (sym same) now.held; linked = linked_line linked };
  is = ap (λ js. table_of js (line_of news new)) same ∙ now.is;
}

pub changed_whole : {J : Type 0} (t s : ℕ) (was is : Phase) (mid news : List ((ℕ × ℕ) × Linked J)) (queue new : Queue) (counts recounts : List (ℕ × Counts)) (a b x y : Bool) (of : IsChanging t s was is mid counts queue)
    → a ≡ is_out was → b ≡ is_out is → x ≡ is_waiting was → y ≡ is_waiting is → Recounts t (moved a b (counted (lookup (nat_eq t) counts))) counts recounts → jobs_in news ≡ jobs_in mid
    → IsLinked news new (waiting_then t s x y (line_of mid queue)) → IsAfter (change_job t s of.old.job of.then (whole of.before queue)) news recounts new
changed_whole t s was is mid news queue new counts recounts a b x y of a_is b_is x_is y_is count same linked =
    let es = of.before in
    let old = of.old.job in
    let then = of.then in
    let done = written of in
    let keys : line_of news new ≡ waiting_then t s (is_waiting old.phase) (is_waiting then.phase) (line_of es queue) =
    line_is news new (waiting_then t s x y (line_of mid queue)) linked ∙ ap (waiting_then t s x y) done.line
    ∙ ap (λ b. waiting_then t s b y (line_of es queue)) (x_is ∙ ap is_waiting (sym of.stood)) ∙ ap (λ b. waiting_then t s (is_waiting old.phase) b (line_of es queue)) (y_is ∙ ap is_waiting (sym of.stands)) in
    after_as mid linked same (change_in t s old then (jobs_in es) (jobs_in mid) counts recounts (line_of es queue) (line_of news new) of.table.held (job_there t s es (Some of.old) of.found) of.named done.jobs
    (recounts_as t a b (is_out old.phase) (is_out then.phase) counts recounts (a_is ∙ ap is_out (sym of.stood)) (b_is ∙ ap is_out (sym of.stands)) count) keys)

-- a job has come into the map, while the counts and the queue are those from before
pub record IsComing {J : Type 0} (t s : ℕ) (job : JobData) (es mid : List ((ℕ × ℕ) × Linked J)) (counts : List (ℕ × Counts)) (queue : Queue) : Type 0 where
  pub held : IsHeld (jobs_in es) counts (line_of es queue)
  pub none : find_row t job.seq (rows_of (jobs_in es)) ≡ None
  pub room : length (rows_of (jobs_in es)) + 1 ≤ 2 ^ 63
  pub kept : (counted (lookup (nat_eq t) counts)).kept < 2 ^ 63
  pub out : (counted (lookup (nat_eq t) counts)).out < 2 ^ 63
  pub done : IsWritten t job.seq job es mid queue
  pub stood : times t s (line_of mid queue) ≡ 0
  pub few : length (line_of mid queue) < 2 ^ 63

pub coming : {J : Type 0} (t s : ℕ) (job : JobData) (fresh : Linked J) {es mid : List ((ℕ × ℕ) × Linked J)} {counts recounts : List (ℕ × Counts)} {queue : Queue} {table : TableData} → IsTable es counts queue → whole es queue ≡ table
    → find_row t job.seq table.rows ≡ None → s ≡ job.seq → fresh.job ≡ job → fresh.links ≡ no_links → ((u : ℕ) → counted (lookup (nat_eq u) recounts) ≡ counted (lookup (nat_eq u) counts))
    → ((u n : ℕ) → lookup (is_key u n) mid ≡ cond (is_key t s (u, n)) (Some fresh) (lookup (is_key u n) es)) → length (rows_of (jobs_in es)) < 2 ^ 63 → IsComing t s job es mid recounts queue
coming t s job fresh {es = es} {mid = mid} {counts = counts} {recounts = recounts} {queue = queue} kept view none named is_job bare same up few =
    let held : IsHeld (jobs_in es) recounts (line_of es queue) = begun (jobs_in es) counts recounts (line_of es queue) kept.held same in
    let absent : find_row t job.seq (rows_of (jobs_in es)) ≡ None = ap (λ (d : TableData). find_row t job.seq d.rows) view ∙ none in
    let stood : times t job.seq (line_of es queue) ≡ 0 = held.kept.waiting t job.seq ∙ ap (λ f. one_if (does_wait f)) absent in
    let done : IsWritten t job.seq job es mid queue = come t job.seq job fresh es mid queue kept.linked stood is_job bare (λ u n. up u n ∙ ap (λ m. cond (is_key t m (u, n)) (Some fresh) (lookup (is_key u n) es)) named) in
    let most = kept_most t (rows_of (jobs_in es)) in
    record {
      held = held;
      none = absent;
      room = omega (arith, few);
      kept = omega (arith, most.0, ap (λ (c : Counts). c.kept) (held.counted t), few);
      out = omega (arith, most.1, ap (λ (c : Counts). c.out) (held.counted t), few);
      done = done;
      stood = ap (λ n. times t n (line_of mid queue)) named ∙ ap (times t job.seq) done.line ∙ stood;
      few = omega (arith, ap length done.line, most_kept _ held.kept, few);
    }

pub added_whole : {J : Type 0} (t s : ℕ) (job : JobData) (es mid news : List ((ℕ × ℕ) × Linked J)) (queue new : Queue) (counts recounts : List (ℕ × Counts)) (a x : Bool) → IsComing t s job es mid counts queue → s ≡ job.seq → a ≡ is_out job.phase
    → x ≡ is_waiting job.phase → Recounts t (one_more a (counted (lookup (nat_eq t) counts))) counts recounts → jobs_in news ≡ jobs_in mid → IsLinked news new (waiting_then t s false x (line_of mid queue))
    → IsAfter (add_job t job (whole es queue)) news recounts new
added_whole t s job es mid news queue new counts recounts a x of named a_is x_is count same linked =
    let keys : line_of news new ≡ waiting_then t job.seq false (is_waiting job.phase) (line_of es queue) =
    line_is news new (waiting_then t s false x (line_of mid queue)) linked ∙ ap (λ n. waiting_then t n false x (line_of mid queue)) named ∙ ap (waiting_then t job.seq false x) of.done.line ∙ ap (λ b. waiting_then t job.seq false b (line_of es queue)) x_is in
    let told = subst (λ b. Recounts t (one_more b (counted (lookup (nat_eq t) counts))) counts recounts) a_is count in
    after_as mid linked same (add_in t job (jobs_in es) (jobs_in mid) counts recounts (line_of es queue) (line_of news new) of.held of.none of.room of.done.jobs told keys)

-- nothing lies where no row is
pub never_there : {J : Type 0} (t s n : ℕ) {es : List ((ℕ × ℕ) × Linked J)} {queue : Queue} {counts : List (ℕ × Counts)} {table : TableData} {o : Option (Linked J)} {other : Linked J} → IsTable es counts queue → whole es queue ≡ table
    → find_row t n table.rows ≡ None → s ≡ n → o ≡ lookup (is_key t s) es → o ≡ Some other → ⊥
never_there t s n {table = table} {other = other} kept view none named was is =
    let gone : Some other.job ≡ None = ap (option_map (λ e. e.job)) (sym is) ∙ sym (seen t s kept view was) ∙ ap (λ m. find_row t m table.rows) named ∙ none in absurd (cc)

dropped_whole : {J : Type 0} (t s : ℕ) (old : Linked J) (es mid news : List ((ℕ × ℕ) × Linked J)) (queue new : Queue) (counts recounts : List (ℕ × Counts)) (a : Bool) → IsTable es counts queue → Some old ≡ lookup (is_key t s) es
    → ((u n : ℕ) → lookup (is_key u n) mid ≡ cond (is_key t s (u, n)) None (lookup (is_key u n) es)) → a ≡ is_out old.job.phase → Recounts t (one_less a (counted (lookup (nat_eq t) counts))) counts recounts
    → jobs_in news ≡ jobs_in mid → (x : Bool) → x ≡ is_waiting old.job.phase → IsLinked news new (waiting_then t s x false (line_of es queue)) → IsAfter (drop_job t s (whole es queue)) news recounts new
dropped_whole t s old es mid news queue new counts recounts a table there up a_is count same x x_is linked =
    let told = subst (λ b. Recounts t (one_less b (counted (lookup (nat_eq t) counts))) counts recounts) a_is count in
    let keys = line_is news new (waiting_then t s x false (line_of es queue)) linked ∙ ap (λ b. waiting_then t s b false (line_of es queue)) x_is in
    after_as mid linked same (drop_in t s old.job (jobs_in es) (jobs_in mid) counts recounts (line_of es queue) (line_of news new) table.held (job_there t s es (Some old) (sym there)) (jobs_update t s None es mid up) told keys)

-- a job that did not wait, and one that did and was taken out of the queue
pub dropped_idle : {J : Type 0} (t s : ℕ) (old : Linked J) {es mid : List ((ℕ × ℕ) × Linked J)} {queue : Queue} {counts recounts : List (ℕ × Counts)} {a : Bool} → IsTable es counts queue → Some old ≡ lookup (is_key t s) es
    → ((u n : ℕ) → lookup (is_key u n) mid ≡ cond (is_key t s (u, n)) None (lookup (is_key u n) es)) → a ≡ is_out old.job.phase → Recounts t (one_less a (counted (lookup (nat_eq t) counts))) counts recounts → is_waiting old.job.phase ≡ false
    → IsAfter (drop_job t s (whole es queue)) mid recounts queue
dropped_idle t s old {es = es} {mid = mid} {queue = queue} {counts = counts} {recounts = recounts} table there up a_is count idle =
    dropped_whole t s old es mid mid queue queue counts recounts _ table there up a_is count refl false (sym idle)
    (kept_without t s es mid queue (line_of es queue) table.linked (stood_whole t s table there ∙ ap one_if idle) (gone_out t s es mid up))

pub dropped_waiting : {J : Type 0} (t s : ℕ) (old : Linked J) (mid : List ((ℕ × ℕ) × Linked J)) {es news : List ((ℕ × ℕ) × Linked J)} {queue new : Queue} {counts recounts : List (ℕ × Counts)} {a : Bool} → IsTable es counts queue → Some old ≡ lookup (is_key t s) es
    → ((u n : ℕ) → lookup (is_key u n) mid ≡ cond (is_key t s (u, n)) None (lookup (is_key u n) es)) → a ≡ is_out old.job.phase → Recounts t (one_less a (counted (lookup (nat_eq t) counts))) counts recounts → is_waiting old.job.phase ≡ true
    → ((u n : ℕ) → links_at u n news ≡ option_map (joined old.links u n) (links_at u n mid)) → jobs_in news ≡ jobs_in mid → new ≡ one_gone old.links queue → IsAfter (drop_job t s (whole es queue)) news recounts new
dropped_waiting t s old mid {es = es} {news = news} {queue = queue} {new = new} {counts = counts} {recounts = recounts} table there up a_is count waits links same is =
    dropped_whole t s old es mid news queue new counts recounts _ table there up a_is count same true (sym waits)
    (left t s es mid news queue new (line_of es queue) old.links table.linked (stood_whole t s table there ∙ ap one_if waits) (table.linked.links t s old.links (ap (option_map (λ e. e.links)) (sym there))) (gone_out t s es mid up) links is)

-- where no job is there, there is none to drop
pub dropped_none : {J : Type 0} (t s : ℕ) {es : List ((ℕ × ℕ) × Linked J)} {queue : Queue} {counts : List (ℕ × Counts)} → IsTable es counts queue → None ≡ lookup (is_key t s) es → whole es queue ≡ drop_job t s (whole es queue)
dropped_none t s {es = es} {queue = queue} table there =
    let rows = rows_of (jobs_in es) in
    let line = line_of es queue in
    let gone : find_row t s rows ≡ None = seen t s {queue = queue} table refl there in
    same_table rows (drop_row t s rows) line (without t s line) (sym (rows_without t s rows gone)) (sym (not_known t s (table_of (jobs_in es) line) table.held.kept gone))

-- as many rows as entries
jobs_keys : {J : Type 0} (es : List ((ℕ × ℕ) × Linked J)) → keys_of (jobs_in es) ≡ keys_of es
jobs_keys [] = refl
jobs_keys (e ∷ es) = ap (λ ks. e.0 ∷ ks) (jobs_keys es)

jobs_length : {J : Type 0} (es : List ((ℕ × ℕ) × Linked J)) → length (jobs_in es) ≡ length es
jobs_length [] = refl
jobs_length (e ∷ es) = grind (arith, jobs_length es)

pub rows_count : {J : Type 0} (es : List ((ℕ × ℕ) × Linked J)) → IsDistinct key_eq (keys_of es) → length (rows_of (jobs_in es)) ≡ length es
rows_count es distinct = rows_length (jobs_in es) (subst (IsDistinct key_eq) (sym (jobs_keys es)) distinct) ∙ jobs_length es

later_case : (t s : ℕ) (key : ℕ × ℕ) (keys : List (ℕ × ℕ)) (i : ℕ) (b : Bool) → is_key t s key ≡ b → ((u n : ℕ) → times u n (key ∷ keys) ≤ 1) → slice_get keys i ≡ Some (t, s) → b ≡ false
later_case t s key keys i true e once here = absurd (omega (arith, once_first t s key keys once e, stands keys i t s here))
later_case t s key keys i false e once here = refl

first_is : (keys : List (ℕ × ℕ)) → first_of keys ≡ slice_get keys 0
first_is [] = refl
first_is (key ∷ keys) = refl

next_here : (keys : List (ℕ × ℕ)) (i t s : ℕ) → ((u n : ℕ) → times u n keys ≤ 1) → slice_get keys i ≡ Some (t, s) → behind t s keys ≡ slice_get keys (suc i)
next_here [] i t s once here = absurd (cc)
next_here (key ∷ keys) zero t s once here =
    let same : key ≡ (t, s) = cc in
    let is : is_key t s key ≡ true = ap (is_key t s) same ∙ key_is t s in
    ap (λ b. cond b (first_of keys) (behind t s keys)) is ∙ first_is keys
next_here (key ∷ keys) (suc i) t s once here =
    let not : is_key t s key ≡ false = later_case t s key keys i (is_key t s key) refl once here in
    ap (λ b. cond b (first_of keys) (behind t s keys)) not ∙ next_here keys i t s (once_rest key keys once) here

-- who stands behind one at a place
pub next_at : (keys : List (ℕ × ℕ)) (i t s : ℕ) → ((u n : ℕ) → times u n keys ≤ 1) → slice_get keys i ≡ Some (t, s) → behind t s keys ≡ slice_get keys (i + 1)
next_at keys i t s once here = rw add-one (next_here keys i t s once here)

pub past_none : (keys : List (ℕ × ℕ)) (k i : ℕ) → k ≤ i → slice_get keys k ≡ None → slice_get keys i ≡ None
past_none [] k i le none = refl
past_none (key ∷ keys) zero i le none = absurd (cc)
past_none (key ∷ keys) (suc k) zero le none = absurd (omega (arith, le))
past_none (key ∷ keys) (suc k) (suc i) le none = past_none keys k i (omega (arith, le)) none

one_most : (b : Bool) → one_if b ≤ 1
one_most true = omega arith
one_most false = omega arith

pub once_waiting : (table : TableData) → AreWaiting table → (t s : ℕ) → times t s table.waiting ≤ 1
once_waiting table are t s = omega (arith, are t s, one_most (does_wait (find_row t s table.rows)))

-- the empty table
pub empty_table : {J : Type 0} (es : List ((ℕ × ℕ) × Linked J)) (counts : List (ℕ × Counts)) → es ≡ [] → counts ≡ [] → IsTable es counts (record { first = None; last = None; len = 0 })
empty_table {J = J} es counts e c = subst (λ xs. IsTable xs counts (record { first = None; last = None; len = 0 })) (sym e) (subst (λ xs. IsTable {J = J} [] xs (record { first = None; last = None; len = 0 })) (sym c)
    (record {
      held = record {
        named = λ t s job is. absurd (cc);
        counted = λ t. refl;
        kept = record { waiting = λ t s. refl; count = refl; few = omega arith };
      };
      linked = record { first = refl; last = refl; len = refl; once = λ t s. omega arith; there = λ t s one. absurd (omega (arith, one)); links = λ t s l is. absurd (cc) };
    }))
