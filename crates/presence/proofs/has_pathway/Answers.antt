-- `presence::has_pathway`: each row is what the table says.
use Rattle.formulas.specs.Formula.{table, pathways_of}
use Rattle.presence.proofs.KnownValues.{soil_chemical_lem, soil_radionuclide_lem, water_chemical_lem, water_radionuclide_lem}
use Rattle.presence.proofs.has_pathway.Goals as goal

pub returns-in-Chemical-Soil : goal.returns-in-Chemical-Soil
returns-in-Chemical-Soil c = let row = c.in-Chemical-Soil in rw (row.is-0, row.is-1, c.chemical.ensures, c.on_skin.ensures) (soil_chemical_lem c.args.s c.args.r c.requires c.args.s.inhalation)

pub returns-in-Radionuclide-Soil : goal.returns-in-Radionuclide-Soil
returns-in-Radionuclide-Soil c = let row = c.in-Radionuclide-Soil in rw (row.is-0, row.is-1) (soil_radionuclide_lem c.args.s c.args.r c.requires c.args.s.inhalation)

pub returns-in-Chemical-Water : goal.returns-in-Chemical-Water
returns-in-Chemical-Water c =
    let row = c.in-Chemical-Water in
    rw (row.is-0, row.is-1, c.chemical-in-Chemical-Water.ensures) (water_chemical_lem c.args.s c.args.r c.requires c.args.s.inhalation)

pub returns-in-Radionuclide-Water : goal.returns-in-Radionuclide-Water
returns-in-Radionuclide-Water c = let row = c.in-Radionuclide-Water in rw (row.is-0, row.is-1) (water_radionuclide_lem c.args.s c.args.r c.requires c.args.s.inhalation)

-- tritium has no row in soil
pub returns-in-Tritium-Soil : goal.returns-in-Tritium-Soil
unfolding pathways_of table
returns-in-Tritium-Soil c = let row = c.in-Tritium-Soil in rw (row.is-0, row.is-1)

pub returns-in-Tritium-Water : goal.returns-in-Tritium-Water
returns-in-Tritium-Water c = let row = c.in-Tritium-Water in rw (row.is-0, row.is-1, c.tritium.ensures)
