-- The queue of waiting jobs, linked through the jobs by their keys.
use Rattle.std.specs.Prelude.{◌≡◌, ℕ, zero, suc, ◌+◌, ◌-◌, ◌≤◌, Bool, true, false, cond, List, [], ◌∷◌, filter, length, Option, Some, None, option_map, is_some}
use Rattle.std.specs.Map.{lookup}
use Rattle.job_table.specs.Table.{JobData, is_key, first_of, behind}
use Rattle.job_table.specs.declared.queue.Links.{Links}
use Rattle.job_table.specs.declared.queue.Linked.{Linked}
use Rattle.job_table.specs.declared.queue.Queue.{Queue}

-- the jobs of the map's entries, under their keys
abbrev pub jobs_in : {J : Type 0} → List ((ℕ × ℕ) × Linked J) → List ((ℕ × ℕ) × JobData)
jobs_in [] = []
jobs_in (entry ∷ entries) = (entry.0, entry.1.job) ∷ jobs_in entries

-- the links of a tenant's job
abbrev pub links_at : {J : Type 0} → ℕ → ℕ → List ((ℕ × ℕ) × Linked J) → Option Links
links_at t s entries = option_map (λ entry. entry.links) (lookup (is_key t s) entries)

-- the key that links name behind a job
abbrev pub behind_in : Option Links → Option (ℕ × ℕ)
behind_in None = None
behind_in (Some links) = links.behind

-- at most n keys, from `at` on along the links
abbrev pub along : {J : Type 0} → ℕ → Option (ℕ × ℕ) → List ((ℕ × ℕ) × Linked J) → List (ℕ × ℕ)
along zero at entries = []
along (suc n) None entries = []
along (suc n) (Some key) entries = key ∷ along n (behind_in (links_at key.0 key.1 entries)) entries

-- the keys in the queue
abbrev pub line_of : {J : Type 0} → List ((ℕ × ℕ) × Linked J) → Queue → List (ℕ × ℕ)
line_of entries queue = along queue.len queue.first entries

-- the last of the keys, or `before` if there are none
abbrev pub last_of : Option (ℕ × ℕ) → List (ℕ × ℕ) → Option (ℕ × ℕ)
last_of before [] = before
last_of before (key ∷ keys) = last_of (Some key) keys

-- the key before that of `(t, s)`; `before` is before the first one
abbrev pub ahead : Option (ℕ × ℕ) → ℕ → ℕ → List (ℕ × ℕ) → Option (ℕ × ℕ)
ahead before t s [] = None
ahead before t s (key ∷ keys) = cond (is_key t s key) before (ahead (Some key) t s keys)

-- the neighbours of `(t, s)` among keys
abbrev pub links_in : ℕ → ℕ → List (ℕ × ℕ) → Links
links_in t s keys = record { before = ahead None t s keys; behind = behind t s keys }

-- the queue has these keys: each at most once, each that of a job. A job's links name its
-- neighbours, or none if it is not in the queue
pub record IsLinked {J : Type 0} (entries : List ((ℕ × ℕ) × Linked J)) (queue : Queue) (keys : List (ℕ × ℕ)) : Type 0 where
  pub first : queue.first ≡ first_of keys
  pub last : queue.last ≡ last_of None keys
  pub len : queue.len ≡ length keys
  pub once : (t s : ℕ) → length (filter (is_key t s) keys) ≤ 1
  pub there : (t s : ℕ) → length (filter (is_key t s) keys) ≡ 1 → is_some (links_at t s entries) ≡ true
  pub links : (t s : ℕ) (links : Links) → links_at t s entries ≡ Some links → links ≡ links_in t s keys

-- the links of a job that does not wait
abbrev pub no_links : Links
no_links = record { before = None; behind = None }

-- whether `(t, s)` is the given key
abbrev pub is_named : Option (ℕ × ℕ) → ℕ → ℕ → Bool
is_named None t s = false
is_named (Some key) t s = is_key t s key

-- the links of the job of `key` have changed, and no others
abbrev pub AreRelinked : {J : Type 0} → Option (ℕ × ℕ) → (Links → Links) → List ((ℕ × ℕ) × Linked J) → List ((ℕ × ℕ) × Linked J) → Type 0
AreRelinked key change entries news = (t s : ℕ) → links_at t s news ≡ option_map (λ links. cond (is_named key t s) (change links) links) (links_at t s entries)

-- a queue with another first key, if no key is given
abbrev pub with_first : Option (ℕ × ℕ) → Option (ℕ × ℕ) → Queue → Queue
with_first key to queue = cond (is_some key) queue (record queue { first = to })

-- a queue with another last key, if no key is given
abbrev pub with_last : Option (ℕ × ℕ) → Option (ℕ × ℕ) → Queue → Queue
with_last key to queue = cond (is_some key) queue (record queue { last = to })

-- a job's links, after a job with links `gone` has left the queue
abbrev pub joined : Links → ℕ → ℕ → Links → Links
joined gone t s links = record { before = cond (is_named gone.behind t s) gone.before links.before; behind = cond (is_named gone.before t s) gone.behind links.behind }

-- the queue, after a job with these links has left it
abbrev pub one_gone : Links → Queue → Queue
one_gone gone queue = record (with_last gone.behind gone.before (with_first gone.before gone.behind queue)) { len = queue.len - 1 }

-- a job's links, after `(t, s)` has come to the end of the queue
abbrev pub lengthened : ℕ → ℕ → Option (ℕ × ℕ) → ℕ → ℕ → Links → Links
lengthened t s last u n links =
    let mine : Links = cond (is_named (Some (t, s)) u n) (record { before = last; behind = None }) links in
    cond (is_named last u n) (record mine { behind = Some (t, s) }) mine

-- the queue, after `(t, s)` has come to its end
abbrev pub one_come : ℕ → ℕ → Queue → Queue
one_come t s queue = record (with_first queue.last (Some (t, s)) queue) { last = Some (t, s); len = queue.len + 1 }
