mod Nests
mod NoVersions
