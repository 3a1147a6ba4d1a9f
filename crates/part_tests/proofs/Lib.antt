mod ListRoom
