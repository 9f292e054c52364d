-- The form that a line is found to have, as contracts see it.
use Rattle.input_file.specs.Lines.{Form, blank, header, setting, malformed}
use Rattle.input_file.specs.declared.line.LineForm.{LineForm}
use Rattle.input_file.specs.declared.line.LineForm.TheVariants.{Blank, Header, Setting, Malformed}

-- the form, with its texts by their bytes
abbrev pub seen_form : LineForm → Form
seen_form Blank = blank
seen_form (Header name) = header name.now
seen_form (Setting key value) = setting key.now value.now
seen_form Malformed = malformed
