use Rattle.std.proofs.Common.{rules, ◌≡◌, Bool, true, false, Some, option_map, ap, ◌∙◌, codes}
use Rattle.clap.specs.Words.{rows_of, found_of, first_of, one_of}
use Rattle.clap.proofs.WalkLemmas.{first_value-rows, one_text-rows}
use Rattle.farm_cli.specs.CommandLine.{flag_text}
use Rattle.farm_cli.proofs.CommandLineLemmas.{text_or}
use Rattle.farm_cli.proofs.arguments.task_of.Goals as goal

pub returns-in-Some-check-default : goal.returns-in-Some-check-default
returns-in-Some-check-default c =
    let m = found_of c.in-Some-check-default.chosen.now in
    record {
      check = λ rows found.
          let e : Some (rows_of m) ≡ Some rows = c.in-Some-check-default.ensures.rows ∙ ap (option_map (λ p. p.1)) found in
          let same : rows_of m ≡ rows = cc in
          ap (λ b. b.now) c.unwrap_or.ensures ∙ text_or c.get_str.result (first_of (codes "FILE") rows) _ (c.get_str.ensures ∙ first_value-rows m (codes "FILE") ∙ ap (first_of (codes "FILE")) same);
      replay = λ rows found. search rules;
      serve = λ rows found. search rules;
    }

pub returns-in-Some-replay-default : goal.returns-in-Some-replay-default
returns-in-Some-replay-default c =
    let m = found_of c.in-Some-replay-default.chosen.now in
    record {
      check = λ rows found. search rules;
      replay = λ rows found.
          let e : Some (rows_of m) ≡ Some rows = c.in-Some-replay-default.ensures.rows ∙ ap (option_map (λ p. p.1)) found in
          let same : rows_of m ≡ rows = cc in (
            ap (λ b. b.now) c.unwrap_or-in-Some-replay-default.ensures
                ∙ text_or c.get_str-in-Some-replay-default.result (first_of (codes "config") rows) _ (c.get_str-in-Some-replay-default.ensures ∙ first_value-rows m (codes "config") ∙ ap (first_of (codes "config")) same),
            ap (λ b. b.now) c.unwrap_or-in-Some-replay-default-2.ensures
                ∙ text_or c.get_str-in-Some-replay-default-2.result (first_of (codes "SCRIPT") rows) _ (c.get_str-in-Some-replay-default-2.ensures ∙ first_value-rows m (codes "SCRIPT") ∙ ap (first_of (codes "SCRIPT")) same),
            λ wanted. elim wanted as (λ (w : Bool). one_of (codes "strict") rows ≡ Some (flag_text w) → c.get_flag.result ≡ w) [
              | true ↦ λ named. c.get_flag.ensures.value (one_text-rows m (codes "strict") ∙ ap (one_of (codes "strict")) same ∙ named)
              | false ↦ λ named. c.get_flag.ensures.other (one_text-rows m (codes "strict") ∙ ap (one_of (codes "strict")) same ∙ named)
            ],
          );
      serve = λ rows found. search rules;
    }

pub returns-in-Some-serve-default : goal.returns-in-Some-serve-default
returns-in-Some-serve-default c =
    let m = found_of c.in-Some-serve-default.chosen.now in
    record {
      check = λ rows found. search rules;
      replay = λ rows found. search rules;
      serve = λ rows found.
          let e : Some (rows_of m) ≡ Some rows = c.in-Some-serve-default.ensures.rows ∙ ap (option_map (λ p. p.1)) found in
          let same : rows_of m ≡ rows = cc in (
            ap (λ b. b.now) c.unwrap_or-in-Some-serve-default.ensures
                ∙ text_or c.get_str-in-Some-serve-default.result (first_of (codes "config") rows) _ (c.get_str-in-Some-serve-default.ensures ∙ first_value-rows m (codes "config") ∙ ap (first_of (codes "config")) same),
            ap (λ b. b.now) c.unwrap_or-in-Some-serve-default-2.ensures
                ∙ text_or c.get_str-in-Some-serve-default-2.result (first_of (codes "port") rows) _ (c.get_str-in-Some-serve-default-2.ensures ∙ first_value-rows m (codes "port") ∙ ap (first_of (codes "port")) same),
            ap (λ b. b.now) c.unwrap_or-in-Some-serve-default-3.ensures
                ∙ text_or c.get_str-in-Some-serve-default-3.result (first_of (codes "sessions") rows) _ (c.get_str-in-Some-serve-default-3.ensures ∙ first_value-rows m (codes "sessions") ∙ ap (first_of (codes "sessions")) same),
          );
    }
