-- The lists of a project, whether it owns or shares them.
use Rattle.mrcpsp.specs.Project.{ProjectData}
use Rattle.mrcpsp.specs.declared.project.Lists.{Lists}
use Rattle.mrcpsp.specs.declared.project.Lists.TheVariants.{Own, Shared}

-- the project that the lists are
abbrev pub parts_in : Lists → ProjectData
parts_in (Own parts) = parts
parts_in (Shared parts) = parts.value
