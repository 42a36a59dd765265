-- What a replay through a buffer has written, once the buffer was written out.
use Rattle.std.proofs.Common.{◌≡◌, ℕ, Bool, List, [], ◌++◌, append-nil, Option, Some, None, Result, Ok, Err, IfSome, OnOk, IfErr, refl, ap, subst, ◌∙◌}
use Rattle.std.specs.Prelude.{⊤}
use Rattle.std.specs.Io.KnownBytes.{Appends, Keeps, append_known}
use Rattle.farm_core.specs.Config.{ConfigData}
use Rattle.farm_config.specs.Config.{Means}
use Rattle.farm_replay.specs.Output.{IsWritten, IsCutOff}
use Rattle.farm_replay.specs.declared.script.ReplayFault.{ReplayFault}
use Rattle.farm_replay.specs.Counts.{Counts}
use Rattle.farm_replay.specs.Noted.{AreNoted}
use Rattle.farm_cli.specs.Replayed.{Plays, IsPlayed, IsPartlyWritten}

-- ---- bytes that are written out stay as they were

appends_kept : (a b c : Option (List ℕ)) (bytes : List ℕ) → Appends a b bytes → Keeps b c → Appends a c bytes
appends_kept None b c bytes h k = tt
appends_kept (Some xs) None c bytes h k = absurd h
appends_kept (Some xs) (Some ys) None bytes h k = absurd k
appends_kept (Some xs) (Some ys) (Some zs) bytes h k = k ∙ h

plays_kept : (ended : Result ⊤ ReplayFault) (config : ConfigData) (from seen : Counts) (refuses : Bool) (script : List ℕ) (a b c : Option (List ℕ)) →
    Plays ended config from seen refuses script a b → Keeps b c → Plays ended config from seen refuses script a c
plays_kept (Ok done) config from seen refuses script a b c h k =
    record { requests = h.requests; all = h.all; marks = h.marks; few = h.few; written = appends_kept a b c _ h.written k; refusal = h.refusal }
plays_kept (Err fault) config from seen refuses script a b c h k = record {
  requests = h.requests;
  rest = h.rest;
  part = h.part;
  all = h.all;
  marks = h.marks;
  written = appends_kept a b c _ h.written k;
  cause = h.cause;
}

-- ---- a replay and the buffer behind it

-- how it ended and what it wrote, as its two clauses tell
told : (ended : Result ⊤ ReplayFault) (config : ConfigData) (from seen : Counts) (refuses : Bool) (script a b c : Option (List ℕ)) →
    OnOk ended (IfSome script (λ bytes. IsWritten config bytes refuses a b)) → IfErr ended (λ fault. IfSome script (λ bytes. IsCutOff config fault from seen bytes a b)) →
    Keeps b c → IfSome script (λ bytes. Plays ended config from seen refuses bytes a c)
told (Ok done) config from seen refuses None a b c well ill k = well
told (Ok done) config from seen refuses (Some bytes) a b c well ill k = plays_kept (Ok done) config from seen refuses bytes a b c well k
told (Err fault) config from seen refuses None a b c well ill k = ill
told (Err fault) config from seen refuses (Some bytes) a b c well ill k = plays_kept (Err fault) config from seen refuses bytes a b c ill k

bare : (known : Option (List ℕ)) (buffer : List ℕ) → buffer ≡ [] → append_known known buffer ≡ known
bare None buffer e = refl
bare (Some xs) buffer e = ap (λ l. Some (xs ++ l)) e ∙ ap Some (append-nil xs)

-- the buffer was empty before
pub gathered : (ended : Result ⊤ ReplayFault) (text : List ℕ) (config : ConfigData) (from seen : Counts) (refuses : Bool) (script before b c : Option (List ℕ)) (buffer : List ℕ) →
    AreNoted ended from seen → Means text (Ok config) → buffer ≡ [] →
    OnOk ended (IfSome script (λ bytes. IsWritten config bytes refuses (append_known before buffer) b)) →
    IfErr ended (λ fault. IfSome script (λ bytes. IsCutOff config fault from seen bytes (append_known before buffer) b)) →
    Keeps b c → IsPlayed ended text from seen refuses script before c
gathered ended text config from seen refuses script before b c buffer noted means empty well ill k =
    let plays = told ended config from seen refuses script (append_known before buffer) b c well ill k in
    let P : Option (List ℕ) → Type 0 = λ a. IfSome script (λ bytes. Plays ended config from seen refuses bytes a c) in
    record { config = config; means = means; plays = subst P (bare before buffer empty) plays; noted = noted }

-- and it is empty after: what was gathered stands in the writer behind it
pub sent : (ended : Result ⊤ ReplayFault) (text : List ℕ) (from seen : Counts) (refuses : Bool) (script before after : Option (List ℕ)) (buffer : List ℕ) →
    buffer ≡ [] → IsPlayed ended text from seen refuses script before (append_known after buffer) → IsPlayed ended text from seen refuses script before after
sent ended text from seen refuses script before after buffer empty played =
    let P : Option (List ℕ) → Type 0 = λ b. IsPlayed ended text from seen refuses script before b in
    subst P (bare after buffer empty) played

-- or it is not
pub unsent : (ended : Result ⊤ ReplayFault) (text : List ℕ) (from seen : Counts) (refuses : Bool) (script before after : Option (List ℕ)) (buffer : List ℕ) →
    IsPlayed ended text from seen refuses script before (append_known after buffer) → IsPartlyWritten text from seen refuses script before after
unsent ended text from seen refuses script before after buffer played =
    record { ended = ended; gathered = append_known after buffer; played = played; rest = buffer; front = refl }
