use Rattle.std.proofs.Common.{◌≡◌, Bor, List, ℕ, ◌∙◌, sym, refl, ap, inl, inr, true, false, map, Some, ◌∷◌, []}
use Rattle.std.proofs.lemmas.List.{map-append}
use Rattle.csv.specs.Reading.{Reached, strip_bom, builder_config, builder_names_headers, builder_trim, with_config, with_flexible, with_names_headers}
use Rattle.csv.specs.Records.{fields_of}
use Rattle.csv.specs.declared.parser.Config.{Config}
use Rattle.csv.specs.declared.parser.State.TheVariants as st
use Rattle.csv.specs.declared.reader.ReaderBuilder.{ReaderBuilder}
use Rattle.csv.proofs.ReadFacts.{rows-more}
use Rattle.schedule_files.specs.ScheduleTable.{config_of, mark_of}
use Rattle.schedule_files.proofs.table.table_rows.Goals as goal

pub loop-row-init : goal.loop-row-init
unfolding Reached
loop-row-init c =
    let mark = c.mark_of.result in
    let built : c.delimiter.result.now ≡ with_config (with_flexible (with_names_headers c.new.result false) true) (record (builder_config c.new.result) { delimiter = mark }) =
    c.delimiter.ensures ∙ ap (λ (b : ReaderBuilder). with_config b (record (builder_config b) { delimiter = mark })) (c.flexible.ensures ∙ ap (λ (b : ReaderBuilder). with_flexible b true) c.has_headers.ensures) in
    let reader = c.from_reader-reader.ensures in
    let start = c.into_iter-row-iterator.ensures.into_iter_gives ∙ refl in
    let rdr = c.into_byte_records-row-items.ensures.rdr in
    let left = c.into_byte_records-row-items.ensures.left in
    rw (start, rdr, c.new-rows.ensures.items) (
      reader.trim ∙ ap builder_trim built ∙ c.new.ensures.trim,
      inr (inr (reader.has_headers ∙ ap builder_names_headers built, reader.headers)),
      left,
      reader.config ∙ ap builder_config built ∙ ap (λ (cfg : Config). record cfg { delimiter = mark }) c.new.ensures.config ∙ ap config_of c.mark_of.ensures,
      strip_bom c.args.text.now,
      reader.source,
      (sym reader.state, refl),
    )

pub loop-row-preserved : goal.loop-row-preserved
loop-row-preserved c =
    let inv = c.loop-row.invariant in
    let text = c.args.text.now in
    let s = rw (c.in-Some.is, c.in-Ok.is) at ((c.next.ensures.steps inv.2 inv.0).0 inv.1) in
    let items = c.in_ok-push-in-Ok.ensures.items in
    let m = rows-more (λ (s : Bor (List ℕ)). Some s.now) c.loop-row.row-iterator.rdr c.next.new.self.rdr (fields_of c.in-Ok.row) (config_of (mark_of text)) st.StartRecord (strip_bom text) inv.4 (map fields_of c.loop-row.rows.items) inv.3 inv.5 inv.6 s.0 in
    (s.0.3 ∙ inv.0, inl s.1, s.2, s.0.2 ∙ inv.3, m.0, m.1, rw (items, map-append fields_of c.loop-row.rows.items (c.in-Ok.row ∷ [])) m.2)
