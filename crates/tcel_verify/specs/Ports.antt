-- The inputs of an image.
use Rattle.std.specs.Prelude.{List, map}
use Rattle.tcel_num.specs.declared.port_row.PortRow.{PortRow}
use Rattle.tcel_image.specs.declared.image.Image.{Image}
use Rattle.tcel_image.specs.declared.image.ImageTask.{ImageTask}

-- a task's name and inputs
abbrev pub port_row : ImageTask → PortRow
port_row task = record { task = task.name; inputs = task.inputs }

-- a row for each task of the image, in order
abbrev pub port_rows : Image → List PortRow
port_rows image = map port_row image.tasks
