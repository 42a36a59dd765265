-- Queries as plain data.
use Rattle.farm_core.specs.declared.command.Command.{Command}
use Rattle.farm_core.specs.declared.command.Command.TheVariants as command
use Rattle.farm_core.specs.declared.entry.Event.{Event}
use Rattle.farm_core.specs.declared.entry.Event.TheVariants as event
use Rattle.farm_pool.specs.declared.image.CallImage.{CallImage}
use Rattle.farm_pool.specs.declared.image.CallImage.TheVariants as said
use Rattle.farm_pool.specs.declared.query.About.{About}
use Rattle.farm_pool.specs.declared.query.About.TheVariants.{Status, Fetch, Ledger}
use Rattle.farm_pool.specs.declared.query.Query.{Query}

-- the event that a query asks for
abbrev pub event_about : About → Event
event_about (Status seq) = event.Status seq
event_about (Fetch seq) = event.Fetch seq
event_about Ledger = event.Ledger

-- the command of a query
abbrev pub command_about : {J : Type 0} → About → Command J
command_about (Status seq) = command.Status seq
command_about (Fetch seq) = command.Fetch seq
command_about Ledger = command.Ledger

-- a query as a call
abbrev pub query_image : Query → CallImage
query_image query = said.Asked query.tenant (event_about query.about)
