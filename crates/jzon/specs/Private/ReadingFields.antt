-- How the fields of a `Reading` represent it.
use Rattle.jzon.specs.Reading.{Reading}
use Rattle.jzon.specs.declared.reading.Reading.TheInside.{Inside}

-- the fields of a reading
abbrev pub fields_of : Reading → Inside
fields_of r = record { strict = r.strict; depth = r.depth; exact = r.exact }
