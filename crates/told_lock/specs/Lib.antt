-- A lock whose passes tell their deeds: its rule, who may do what, and the one order of all deeds.
pub mod Deeds
pub mod Known
pub mod Lending
pub mod Rights
pub mod Rule
