-- The project and the most schedules stay, the best gets no longer, and what was generated only grows.
use Rattle.std.proofs.Common.{◌≡◌, ◌+◌, ◌≤◌, true}
use Rattle.improve_search.specs.LocalSearch.{IsNoLonger, is_over}
use Rattle.improve_search.proofs.local_search.LocalSearch.run.Given as goal

abbrev pub invariant-loop : goal.invariant-loop
invariant-loop l = record {
  project : l.self.project ≡ l.fn.self.project;
  most : l.self.most ≡ l.fn.self.most;
  no_longer : IsNoLonger l.fn.self.project l.fn.self.best l.self.best;
  spent : l.fn.self.spent ≤ l.self.spent;
  made : l.fn.self.spent + l.counter ≤ l.self.spent;
  over : is_over l.fn.self ≡ true → l.self ≡ l.fn.self;
  few : l.self.spent ≤ l.fn.self.spent + l.schedules + 2;
}
