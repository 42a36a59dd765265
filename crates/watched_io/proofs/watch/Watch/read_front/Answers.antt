use Rattle.std.proofs.Common.{◌≡◌, IfSome, take, ℕ, List, Option, Some, None, option_map}
use Rattle.watched_io.proofs.watch.Watch.read_front.Goals as goal

-- what was read of a reader whose bytes are cut at a limit
front_known : (limit : ℕ) (known : Option (List ℕ)) (items : List ℕ) → IfSome (option_map (take limit) known) (λ xs. items ≡ xs) → IfSome known (λ xs. items ≡ take limit xs)
front_known limit None items h = h
front_known limit (Some xs) items h = h

pub returns-in-Ok-clause-front : goal.returns-in-Ok-clause-front
returns-in-Ok-clause-front g c =
    let read = rw (c.take.ensures.limit, c.take.ensures.inner, c.new-bytes.ensures.items) at c.in-Ok.ensures.bytes in
    front_known c.args.most (g.R.Read.remaining c.args.reader) _ read
